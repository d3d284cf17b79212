use Rattle.std.proofs.Common.{◌≡◌}
use Rattle.ccr_problem.specs.Follows.{has_newer}
use Rattle.ccr_problem.proofs.coming.has_newer.Given as goal

abbrev pub invariant-loop-newer : goal.invariant-loop-newer
invariant-loop-newer l = has_newer l.job l.number l.history.builds ≡ has_newer l.job l.newer l.history.builds
