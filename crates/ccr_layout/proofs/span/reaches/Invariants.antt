use Rattle.ccr_layout.specs.Reaches.{AreReaches}
use Rattle.ccr_layout.proofs.span.reaches.Given as goal

abbrev pub invariant-loop-edge : goal.invariant-loop-edge
invariant-loop-edge l = AreReaches l.columns l.edges l.edge-index l.reaches.items
