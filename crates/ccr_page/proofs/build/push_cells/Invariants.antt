use Rattle.std.proofs.Common.{take, flat_map}
use Rattle.ccr_page.specs.Pieces.{Adds}
use Rattle.ccr_page.specs.Builds.{cell_pieces}
use Rattle.ccr_page.proofs.build.push_cells.Given as goal

abbrev pub invariant-loop-cell : goal.invariant-loop-cell
invariant-loop-cell l = Adds l.fn.out.items l.out.items (flat_map cell_pieces (take l.cell-index l.cells))
