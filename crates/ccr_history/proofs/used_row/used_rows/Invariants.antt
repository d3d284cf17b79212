use Rattle.std.proofs.Common.{◌≡◌, ◌<◌, ◌≤◌, drop, length, map}
use Rattle.std.specs.List.{AllByRecursion}
use Rattle.ccr_history.specs.Names.{HasMore}
use Rattle.ccr_history.specs.Builds.{by_input}
use Rattle.ccr_history.specs.Rows.{used_data}
use Rattle.ccr_history.proofs.used_row.used_rows.Given as goal

abbrev pub invariant-loop-left : goal.invariant-loop-left
invariant-loop-left l =
    record {
      within : l.left ≤ length l.used;
      sorted : map (used_data l.inputs) l.rows.items ≡ by_input (drop l.left l.used);
      named : AllByRecursion (λ u. u.input < length l.inputs) l.rows.items;
      more : HasMore l.fn.inputs l.inputs;
    }

abbrev pub decreases-loop-left : goal.decreases-loop-left
decreases-loop-left l = l.left
