use Rattle.std.proofs.Common.{◌≡◌, ◌++◌, drop}
use Rattle.ccr_lines.proofs.past.copy_builds.Given as goal

abbrev pub invariant-loop-build : goal.invariant-loop-build
invariant-loop-build l = l.copies.items ++ drop l.build-index l.builds ≡ l.builds
