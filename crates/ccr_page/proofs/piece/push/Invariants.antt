use Rattle.std.proofs.Common.{map, take}
use Rattle.ccr_page.specs.Pieces.{Adds, piece_data}
use Rattle.ccr_page.proofs.piece.push.Given as goal

abbrev pub invariant-loop-piece : goal.invariant-loop-piece
invariant-loop-piece l = Adds l.fn.out.items l.out.items (map piece_data (take l.piece-index l.pieces))
