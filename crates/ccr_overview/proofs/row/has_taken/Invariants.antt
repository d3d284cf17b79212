use Rattle.std.proofs.Common.{◌≡◌, drop}
use Rattle.ccr_lines.specs.Releases.{is_pair}
use Rattle.ccr_overview.specs.PageRows.{has_taken}
use Rattle.std.specs.List.{list_any}
use Rattle.ccr_overview.proofs.row.has_taken.Given as goal

abbrev pub invariant-loop-k : goal.invariant-loop-k
invariant-loop-k l =
    list_any (λ u. is_pair l.pair (u.scope, u.place)) (drop l.k l.build.used) ≡ has_taken l.build l.pair
