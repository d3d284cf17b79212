use Rattle.std.proofs.Common.{◌≡◌, ◌++◌, drop}
use Rattle.ccr_explain.specs.Cut.{builds_from}
use Rattle.ccr_explain.proofs.cut.jobs_of.Given as goal

abbrev pub invariant-loop-n : goal.invariant-loop-n
invariant-loop-n l = l.jobs.items ++ builds_from l.problem l.inputs l.n (drop l.n l.order) ≡ builds_from l.problem l.inputs 0 l.order
