use Rattle.std.proofs.Common.{◌≡◌, take, option_map}
use Rattle.ccr_lines.specs.Releases.{newest_together}
use Rattle.ccr_lines.proofs.release.newest_together.Given as goal

abbrev pub invariant-loop-k : goal.invariant-loop-k
invariant-loop-k l = l.newest ≡ option_map (λ b. b.number) (newest_together l.job l.pairs (take l.k l.history.builds))
