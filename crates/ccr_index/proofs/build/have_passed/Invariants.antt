use Rattle.std.proofs.Common.{ℕ, ◌<◌, slice_index}
use Rattle.ccr_choice.specs.Problem.{input_at}
use Rattle.ccr_choice.specs.Assignment.{nothing_fixed}
use Rattle.ccr_choice.specs.Possible.{CanHavePassed}
use Rattle.ccr_index.proofs.build.have_passed.Given as goal

abbrev pub invariant-loop-job : goal.invariant-loop-job
invariant-loop-job l = (k : ℕ) → k < l.job-index → CanHavePassed l.problem nothing_fixed (l.scope, l.place) (slice_index (input_at l.problem l.input).jobs k)
