use Rattle.std.proofs.Common.{ℕ, ◌<◌}
use Rattle.ccr_choice.specs.Satisfies.{IsAllowed}
use Rattle.ccr_choice.proofs.verdict.first_not_allowed.Given as goal

abbrev pub invariant-loop-i : goal.invariant-loop-i
invariant-loop-i l = (k : ℕ) → k < l.i → IsAllowed l.problem l.places k
