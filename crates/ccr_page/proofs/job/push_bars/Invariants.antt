use Rattle.std.proofs.Common.{take, flat_map}
use Rattle.ccr_page.specs.Pieces.{Adds}
use Rattle.ccr_page.specs.Jobs.{bar_pieces}
use Rattle.ccr_page.proofs.job.push_bars.Given as goal

abbrev pub invariant-loop-bar : goal.invariant-loop-bar
invariant-loop-bar l = Adds l.fn.out.items l.out.items (flat_map (bar_pieces l.position) (take l.bar-index l.bars))
