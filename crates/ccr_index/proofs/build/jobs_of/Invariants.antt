use Rattle.std.proofs.Common.{◌≡◌, map, take}
use Rattle.ccr_index.specs.Alike.{AreCounted}
use Rattle.ccr_index.proofs.build.jobs_of.Given as goal

abbrev pub invariant-loop-j : goal.invariant-loop-j
invariant-loop-j l = (map (λ r. r.builds) l.jobs.items ≡ take l.j l.problem.jobs) × AreCounted l.problem.inputs (map (λ r. r.scopes) l.jobs.items)
