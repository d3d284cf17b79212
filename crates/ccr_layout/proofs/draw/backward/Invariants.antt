use Rattle.ccr_layout.specs.Lanes.{AreMarked}
use Rattle.ccr_layout.proofs.draw.backward.Given as goal

abbrev pub invariant-loop-edge : goal.invariant-loop-edge
invariant-loop-edge l = AreMarked l.spans l.edges l.edge-index l.marks.items
