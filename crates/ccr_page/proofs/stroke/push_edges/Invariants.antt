use Rattle.ccr_page.specs.Pieces.{Adds}
use Rattle.ccr_page.specs.Each.{at_each}
use Rattle.ccr_page.specs.Strokes.{edge_at}
use Rattle.ccr_page.proofs.stroke.push_edges.Given as goal

abbrev pub invariant-loop-position : goal.invariant-loop-position
invariant-loop-position l = Adds l.fn.out.items l.out.items (at_each (edge_at l.stroke l.arrows l.paths) l.position)
