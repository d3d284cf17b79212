use Rattle.std.proofs.Common.{◌≡◌, drop}
use Rattle.ccr_lines.specs.Releases.{passed_all}
use Rattle.ccr_lines.proofs.release.has_passed_all.Given as goal

abbrev pub invariant-loop-pair : goal.invariant-loop-pair
invariant-loop-pair l = passed_all (drop l.pair-index l.pairs) l.build ≡ passed_all l.pairs l.build
