use Rattle.std.proofs.Common.{◌≡◌, map, take}
use Rattle.ccr_explain.specs.Cut.{place_in}
use Rattle.ccr_explain.proofs.cut.numbers_of.Given as goal

abbrev pub invariant-loop-job : goal.invariant-loop-job
invariant-loop-job l = l.numbers.items ≡ map (place_in l.order) (take l.job-index l.jobs)
