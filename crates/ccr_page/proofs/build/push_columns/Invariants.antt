use Rattle.std.proofs.Common.{take, flat_map}
use Rattle.ccr_page.specs.Pieces.{Adds}
use Rattle.ccr_page.specs.Builds.{column_pieces}
use Rattle.ccr_page.proofs.build.push_columns.Given as goal

abbrev pub invariant-loop-column : goal.invariant-loop-column
invariant-loop-column l = Adds l.fn.out.items l.out.items (flat_map column_pieces (take l.column-index l.columns))
