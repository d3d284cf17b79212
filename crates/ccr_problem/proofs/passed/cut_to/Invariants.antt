use Rattle.std.proofs.Common.{◌≡◌, ◌++◌, drop}
use Rattle.ccr_problem.specs.Passed.{cut_to}
use Rattle.ccr_problem.proofs.Pairs.{cut_from}
use Rattle.ccr_problem.proofs.passed.cut_to.Given as goal

abbrev pub invariant-loop-number : goal.invariant-loop-number
invariant-loop-number l = l.cut.items ++ cut_from l.number (drop l.number l.scopes) l.pairs ≡ cut_to l.scopes l.pairs
