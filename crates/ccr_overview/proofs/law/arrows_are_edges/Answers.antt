use Rattle.ccr_overview.proofs.Drawing.{edges_drawn}
use Rattle.ccr_overview.proofs.law.arrows_are_edges.Goals as goal

pub returns : goal.returns
returns c p h budget told are = edges_drawn p h budget told are
