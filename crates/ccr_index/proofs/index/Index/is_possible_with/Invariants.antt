use Rattle.std.proofs.Common.{◌≢◌, ℕ, ◌<◌, slice_index}
use Rattle.std.specs.Prelude.{Any, Contains}
use Rattle.ccr_choice.specs.Problem.{input_at, builds_at}
use Rattle.ccr_index.proofs.index.Index.is_possible_with.Given as goal

abbrev pub invariant-loop-name : goal.invariant-loop-name
invariant-loop-name l = (k : ℕ) → k < l.name-index → slice_index (input_at l.self.problem l.input).jobs k ≢ l.job
    → Any (λ b. Contains b.pairs (l.scope, l.place)) (builds_at l.self.problem (slice_index (input_at l.self.problem l.input).jobs k))
