use Rattle.std.proofs.Common.{◌≡◌, ℕ, ◌<◌, length, slice_index_or}
use Rattle.ccr_layout.specs.declared.graph.Edge.{Edge}
use Rattle.ccr_layout.specs.declared.picture.Path.{Path}
use Rattle.ccr_layout.specs.Drawing.{IsPathOf}
use Rattle.ccr_layout.proofs.draw.paths_of.Given as goal

abbrev pub invariant-loop-edge : goal.invariant-loop-edge
invariant-loop-edge l = record {
  long : length l.paths.items ≡ l.edge-index;
  each : (k : ℕ) (d : Path) (e : Edge) → k < l.edge-index
      → IsPathOf l.nodes l.spans l.bands l.tops l.lanes (slice_index_or l.edges k e) (slice_index_or l.paths.items k d);
}
