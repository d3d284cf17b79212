use Rattle.std.proofs.Common.{◌≡◌, ◌++◌, drop}
use Rattle.ccr_lines.specs.Releases.{pairs_for}
use Rattle.ccr_lines.proofs.release.push_pairs_for.Given as goal

abbrev pub invariant-loop-k : goal.invariant-loop-k
invariant-loop-k l =
    l.pairs.items ++ pairs_for l.input (drop l.k l.build.used) ≡ l.fn.pairs.items ++ pairs_for l.input l.build.used
