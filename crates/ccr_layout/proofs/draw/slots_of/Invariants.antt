use Rattle.ccr_layout.specs.Drawing.{HasSlots}
use Rattle.ccr_layout.proofs.draw.slots_of.Given as goal

abbrev pub invariant-loop-node : goal.invariant-loop-node
invariant-loop-node l = HasSlots l.spans l.bands l.tops l.node 0 l.slots.items
