use Rattle.std.proofs.Common.{◌≡◌, drop}
use Rattle.ccr_overview.specs.PageBuilds.{is_good_at}
use Rattle.std.specs.List.{list_any}
use Rattle.ccr_overview.proofs.build.has_good.Given as goal

abbrev pub invariant-loop-position : goal.invariant-loop-position
invariant-loop-position l =
    list_any (is_good_at l.history) (drop l.position-index l.positions) ≡ list_any (is_good_at l.history) l.positions
