use Rattle.std.proofs.Common.{◌≡◌, length, take}
use Rattle.ccr_problem.specs.Passed.{successful}
use Rattle.ccr_lines.proofs.past.count_successful.Given as goal

abbrev pub invariant-loop-k : goal.invariant-loop-k
invariant-loop-k l = l.count ≡ length (successful l.job (take l.k l.history.builds))
