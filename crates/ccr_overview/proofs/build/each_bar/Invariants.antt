use Rattle.std.proofs.Common.{◌≡◌, map, take}
use Rattle.ccr_overview.specs.PageBuilds.{bar_of}
use Rattle.ccr_overview.proofs.build.each_bar.Given as goal

abbrev pub invariant-loop-build : goal.invariant-loop-build
invariant-loop-build l =
    l.bars.items ≡ map (bar_of l.rows) (take l.build-index l.builds)
