use Rattle.std.proofs.Common.{take, flat_map}
use Rattle.ccr_page.specs.Pieces.{Adds}
use Rattle.ccr_page.specs.Heads.{sum_pieces}
use Rattle.ccr_page.proofs.head.push_sums.Given as goal

abbrev pub invariant-loop-status : goal.invariant-loop-status
invariant-loop-status l = Adds l.fn.out.items l.out.items (flat_map (sum_pieces l.jobs) (take l.status-index l.statuses))
