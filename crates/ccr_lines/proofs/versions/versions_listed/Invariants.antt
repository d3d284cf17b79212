use Rattle.std.proofs.Common.{◌≡◌, map, take}
use Rattle.ccr_history.specs.Pairs.{has_pair}
use Rattle.ccr_history.specs.Tables.{scope_number, versions_of}
use Rattle.ccr_lines.specs.Listed.{listed_data, listed_from}
use Rattle.ccr_lines.proofs.versions.versions_listed.Given as goal

abbrev pub invariant-loop-k : goal.invariant-loop-k
invariant-loop-k l =
    map listed_data l.listed.items
    ≡ listed_from (λ place. has_pair (scope_number l.scope l.history.tables, place) l.history.disabled) 1
    (take l.k (versions_of l.scope l.history.tables))
