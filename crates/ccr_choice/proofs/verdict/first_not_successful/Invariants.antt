use Rattle.std.proofs.Common.{ℕ, ◌<◌}
use Rattle.ccr_choice.specs.Satisfies.{IsSuccessful}
use Rattle.ccr_choice.proofs.verdict.first_not_successful.Given as goal

abbrev pub invariant-loop-j : goal.invariant-loop-j
invariant-loop-j l = (k : ℕ) → k < l.j → IsSuccessful l.problem l.builds k
