use Rattle.std.proofs.Common.{◌≡◌, length, take, drop}
use Rattle.ccr_history.specs.Tables.{with_versions}
use Rattle.ccr_history.proofs.table.Table.add_each.Given as goal

abbrev pub invariant-loop-version : goal.invariant-loop-version
invariant-loop-version l =
    (with_versions l.self (drop l.version-index l.versions) ≡ with_versions l.fn.self l.versions)
    × (take (length l.fn.self) l.self ≡ l.fn.self)
