use Rattle.std.proofs.Common.{◌≡◌, drop}
use Rattle.std.specs.List.{list_any}
use Rattle.ccr_lines.specs.Traces.{is_sought}
use Rattle.ccr_lines.proofs.trace.has_sought.Given as goal

abbrev pub invariant-loop-pair : goal.invariant-loop-pair
invariant-loop-pair l =
    list_any (λ q. is_sought l.history.tables l.resource l.pin q.0 q.1) (drop l.pair-index l.pairs)
    ≡ list_any (λ q. is_sought l.history.tables l.resource l.pin q.0 q.1) l.pairs
