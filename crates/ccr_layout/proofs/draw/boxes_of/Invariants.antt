use Rattle.std.proofs.Common.{◌≡◌, ℕ, ◌<◌, length, slice_index_or}
use Rattle.ccr_layout.specs.declared.picture.NodeBox.{NodeBox}
use Rattle.ccr_layout.specs.Drawing.{box_of}
use Rattle.ccr_layout.proofs.draw.boxes_of.Given as goal

abbrev pub invariant-loop-node : goal.invariant-loop-node
invariant-loop-node l = record {
  long : length l.boxes.items ≡ l.node;
  each : (k : ℕ) (d : NodeBox) → k < l.node → slice_index_or l.boxes.items k d ≡ box_of l.spans l.bands l.tops k;
}
