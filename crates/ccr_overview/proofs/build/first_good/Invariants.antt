use Rattle.std.proofs.Common.{◌≡◌, drop, find}
use Rattle.ccr_overview.specs.PageBuilds.{is_good_at}
use Rattle.ccr_overview.proofs.build.first_good.Given as goal

abbrev pub invariant-loop-position : goal.invariant-loop-position
invariant-loop-position l =
    find (is_good_at l.history) (drop l.position-index l.positions) ≡ find (is_good_at l.history) l.positions
