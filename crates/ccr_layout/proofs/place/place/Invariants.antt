use Rattle.ccr_layout.proofs.PlaceLaws.{ArePlacing}
use Rattle.ccr_layout.proofs.place.place.Given as goal

abbrev pub invariant-loop-node : goal.invariant-loop-node
invariant-loop-node l = ArePlacing l.order l.heights l.tops.items l.node-index l.free
