use Rattle.std.proofs.Common.{take, flat_map}
use Rattle.ccr_page.specs.Pieces.{Adds}
use Rattle.ccr_page.specs.Drawings.{tab_pieces}
use Rattle.ccr_page.proofs.drawing.push_tabs.Given as goal

abbrev pub invariant-loop-tab : goal.invariant-loop-tab
invariant-loop-tab l = Adds l.fn.out.items l.out.items (flat_map (tab_pieces l.page) (take l.tab-index l.tabs))
