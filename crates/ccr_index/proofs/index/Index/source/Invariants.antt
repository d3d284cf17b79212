use Rattle.std.proofs.Common.{◌≡◌, ℕ, ◌<◌, slice_index, None}
use Rattle.ccr_choice.specs.Problem.{input_at}
use Rattle.ccr_choice.specs.Table.{assigned}
use Rattle.ccr_index.proofs.index.Index.source.Given as goal

abbrev pub invariant-loop-job : goal.invariant-loop-job
invariant-loop-job l = (k : ℕ) → k < l.job-index → assigned l.self.problem l.fixed (slice_index (input_at l.self.problem l.input).jobs k) ≡ None
