use Rattle.std.proofs.Common.{◌≡◌, ◌++◌, drop, not}
use Rattle.ccr_overview.specs.PageRows.{has_taken}
use Rattle.std.specs.Prelude.{filter}
use Rattle.ccr_overview.proofs.row.put_pairs.Given as goal

abbrev pub invariant-loop-pair : goal.invariant-loop-pair
invariant-loop-pair l =
    l.pairs.items ++ filter (λ q. not (has_taken l.build q)) (drop l.pair-index l.pair-items) ≡ filter (λ q. not (has_taken l.build q)) l.pair-items
