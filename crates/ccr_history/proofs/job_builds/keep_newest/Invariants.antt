use Rattle.std.proofs.Common.{◌≡◌, ◌+◌, ◌≤◌, length, take}
use Rattle.std.specs.Map.{lookup}
use Rattle.std.specs.Option.{option_or}
use Rattle.indexmap.specs.IndexMap.{spare}
use Rattle.ccr_history.specs.declared.used_row.InputScope.{InputScope}
use Rattle.ccr_history.specs.Newest.{last_given}
use Rattle.ccr_history.specs.Rows.{is_input_scope, row_if_at}
use Rattle.ccr_history.proofs.job_builds.keep_newest.Given as goal

abbrev pub invariant-loop-one : goal.invariant-loop-one
invariant-loop-one l =
    (length l.used ≤ l.one-index + spare l.newest)
    × ((s : InputScope) → lookup (is_input_scope s) l.newest.entries
    ≡ option_or (last_given (row_if_at s) (take l.one-index l.used)) (lookup (is_input_scope s) l.fn.newest.entries))
