use Rattle.ccr_layout.specs.Lanes.{AreLanes}
use Rattle.ccr_layout.proofs.draw.lanes_below.Given as goal

abbrev pub invariant-loop-node : goal.invariant-loop-node
invariant-loop-node l = AreLanes l.marks l.bottom l.lanes.items l.node l.next l.end
