use Rattle.std.proofs.Common.{◌≡◌, ℕ, ◌<◌, true, slice_index_or}
use Rattle.ccr_layout.proofs.layer.first_waiting.Given as goal

abbrev pub invariant-loop-node : goal.invariant-loop-node
invariant-loop-node l = (t : ℕ) → t < l.node → slice_index_or l.done t true ≡ true
