use Rattle.std.proofs.Common.{ℕ, ◌<◌}
use Rattle.ccr_choice.specs.Satisfies.{HasPassedAll}
use Rattle.ccr_choice.proofs.verdict.first_not_passed.Given as goal

abbrev pub invariant-loop-i : goal.invariant-loop-i
invariant-loop-i l = (k : ℕ) → k < l.i → HasPassedAll l.problem l.places l.builds k
