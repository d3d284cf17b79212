use Rattle.std.proofs.Common.{◌+◌}
use Rattle.ccr_layout.specs.Drawing.{HasSlots}
use Rattle.ccr_layout.proofs.draw.push_slots.Given as goal

abbrev pub invariant-loop-before : goal.invariant-loop-before
invariant-loop-before l = HasSlots l.spans l.bands l.tops l.node (l.before + 1) l.slots.items
