use Rattle.std.proofs.Common.{◌≡◌, ◌++◌, drop}
use Rattle.ccr_overview.specs.PageBuilds.{builds_at}
use Rattle.ccr_overview.proofs.build.builds_at.Given as goal

abbrev pub invariant-loop-position : goal.invariant-loop-position
invariant-loop-position l =
    l.builds.items ++ builds_at l.history (drop l.position-index l.positions) ≡ builds_at l.history l.positions
