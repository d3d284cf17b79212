use Rattle.std.proofs.Common.{◌≡◌, ℕ, ◌<◌, true, false, slice_index_or}
use Rattle.std.specs.Prelude.{Contains}
use Rattle.ccr_layout.specs.Layers.{named_in}
use Rattle.ccr_layout.proofs.layer.first_ready.Given as goal

abbrev pub invariant-loop-node : goal.invariant-loop-node
invariant-loop-node l = (t : ℕ) → t < l.node → slice_index_or l.done t true ≡ false
    → (s : ℕ) × (Contains (named_in l.named t) s × (slice_index_or l.done s true ≡ false))
