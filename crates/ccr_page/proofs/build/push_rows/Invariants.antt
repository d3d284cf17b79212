use Rattle.std.proofs.Common.{take, flat_map}
use Rattle.ccr_page.specs.Pieces.{Adds}
use Rattle.ccr_page.specs.Builds.{row_pieces}
use Rattle.ccr_page.proofs.build.push_rows.Given as goal

abbrev pub invariant-loop-row : goal.invariant-loop-row
invariant-loop-row l = Adds l.fn.out.items l.out.items (flat_map (row_pieces l.page l.position l.job l.has_rest) (take l.row-index l.row-items))
