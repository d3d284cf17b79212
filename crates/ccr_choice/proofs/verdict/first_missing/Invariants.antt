use Rattle.std.proofs.Common.{ℕ, ◌<◌, slice_index}
use Rattle.ccr_choice.specs.Problem.{input_at}
use Rattle.ccr_choice.specs.Satisfies.{HasPassed}
use Rattle.ccr_choice.proofs.verdict.first_missing.Given as goal

abbrev pub invariant-loop-j : goal.invariant-loop-j
invariant-loop-j l = (k : ℕ) → k < l.j-index → HasPassed l.problem l.places l.builds l.i (slice_index (input_at l.problem l.i).jobs k)
