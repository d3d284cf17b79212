use Rattle.std.proofs.Common.{◌≡◌, ◌+◌, ◌≤◌, ◌||◌, length, take}
use Rattle.std.specs.List.{list_any}
use Rattle.indexmap.specs.IndexSet.{spare}
use Rattle.ccr_history.specs.declared.used_row.UsedRow.{UsedRow}
use Rattle.ccr_history.specs.Rows.{is_same}
use Rattle.ccr_history.proofs.job_builds.insert_all.Given as goal

abbrev pub invariant-loop-one : goal.invariant-loop-one
invariant-loop-one l =
    (length l.used ≤ l.one-index + spare l.set)
    × ((u : UsedRow) → list_any (is_same u) l.set.keys ≡ (list_any (is_same u) l.fn.set.keys || list_any (is_same u) (take l.one-index l.used)))
