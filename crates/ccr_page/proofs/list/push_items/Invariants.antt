use Rattle.std.proofs.Common.{take, flat_map}
use Rattle.ccr_page.specs.Pieces.{Adds}
use Rattle.ccr_page.specs.Lists.{still_pieces}
use Rattle.ccr_page.proofs.list.push_items.Given as goal

abbrev pub invariant-loop-position : goal.invariant-loop-position
invariant-loop-position l = Adds l.fn.out.items l.out.items (flat_map (still_pieces l.jobs) (take l.position-index l.positions))
