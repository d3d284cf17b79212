use Rattle.std.proofs.Common.{◌≡◌, map, take}
use Rattle.ccr_page.specs.Shapes.{edge_of}
use Rattle.ccr_page.proofs.shape.edges_of.Given as goal

abbrev pub invariant-loop-arrow : goal.invariant-loop-arrow
invariant-loop-arrow l = l.edges.items ≡ map edge_of (take l.arrow-index l.arrows)
