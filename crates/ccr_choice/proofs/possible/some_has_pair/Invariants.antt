use Rattle.std.proofs.Common.{◌≡◌, ℕ, ◌<◌, slice_index_or}
use Rattle.std.specs.Prelude.{Contains}
use Rattle.ccr_choice.specs.Problem.{BuildValue}
use Rattle.ccr_choice.proofs.possible.some_has_pair.Given as goal

abbrev pub invariant-loop-build : goal.invariant-loop-build
invariant-loop-build l = (k : ℕ) (b : BuildValue) → k < l.build-index → slice_index_or l.builds k b ≡ b → Contains b.pairs (l.scope, l.place) → ⊥
