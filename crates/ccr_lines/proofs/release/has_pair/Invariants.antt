use Rattle.std.proofs.Common.{◌≡◌, drop}
use Rattle.std.specs.List.{list_any}
use Rattle.ccr_lines.specs.Releases.{is_pair}
use Rattle.ccr_lines.proofs.release.has_pair.Given as goal

abbrev pub invariant-loop-other : goal.invariant-loop-other
invariant-loop-other l =
    list_any (is_pair l.pair) (drop l.other-index l.pairs) ≡ list_any (is_pair l.pair) l.pairs
