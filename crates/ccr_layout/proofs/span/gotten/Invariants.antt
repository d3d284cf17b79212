use Rattle.ccr_layout.specs.Columns.{AreGotten}
use Rattle.ccr_layout.proofs.span.gotten.Given as goal

abbrev pub invariant-loop-edge : goal.invariant-loop-edge
invariant-loop-edge l = AreGotten l.nodes l.edges l.layers l.edge-index l.columns.items
