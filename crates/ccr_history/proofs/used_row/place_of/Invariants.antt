use Rattle.std.proofs.Common.{◌≡◌, ℕ, ◌<◌, get_or, true, is_gt, nat_cmp}
use Rattle.std.specs.Cmp.Lexicographic.{slice_cmp}
use Rattle.ccr_history.specs.declared.used_row.UsedRow.{UsedRow}
use Rattle.ccr_history.specs.Names.{name_at}
use Rattle.ccr_history.proofs.used_row.place_of.Given as goal

abbrev pub invariant-loop-i : goal.invariant-loop-i
invariant-loop-i l =
    (k : ℕ) (d : UsedRow) → k < l.i → is_gt (slice_cmp nat_cmp l.name (name_at l.inputs (get_or l.rows k d).input)) ≡ true
