use Rattle.std.proofs.Common.{take, flat_map}
use Rattle.ccr_page.specs.Pieces.{Adds}
use Rattle.ccr_page.specs.Strokes.{slot_if}
use Rattle.ccr_page.proofs.stroke.push_slots.Given as goal

abbrev pub invariant-loop-slot : goal.invariant-loop-slot
invariant-loop-slot l = Adds l.fn.out.items l.out.items (flat_map (slot_if l.stroke l.boxes l.arrows) (take l.slot-index l.slots))
