use Rattle.std.proofs.Common.{◌≡◌, ◌+◌, ◌-◌, ◌*◌, ◌++◌, drop}
use Rattle.ccr_history.proofs.Items.{left}
use Rattle.ccr_pipeline.specs.Keys.{data_of, path_to, items_in}
use Rattle.ccr_pipeline.specs.Names.{names_of}
use Rattle.ccr_pipeline.specs.Schema.{opening, rows}
use Rattle.ccr_pipeline.specs.Unused.{unused_object, unused_rows, unused_items}
use Rattle.ccr_pipeline.proofs.unused.+unused.Given as goal

abbrev pub decreases-push_keys : goal.decreases-push_keys
decreases-push_keys l = 4 * l.left

abbrev pub decreases-push_items : goal.decreases-push_items
decreases-push_items l = 4 * l.left + 1

abbrev pub decreases-push_value : goal.decreases-push_value
decreases-push_value l = 4 * l.left + 2

abbrev pub invariant-push_keys-loop-kind : goal.invariant-push_keys-loop-kind
invariant-push_keys-loop-kind l =
    names_of l.out.items ++ unused_rows (unused_object (l.left - 1)) (rows (drop l.kind-index l.rows)) (path_to l.object) (data_of l.object) ≡ names_of l.initial.out.items ++ unused_rows (unused_object (l.left - 1)) (opening l.fn.schema) (path_to l.object) (data_of l.object)

abbrev pub invariant-push_items-loop-i : goal.invariant-push_items-loop-i
invariant-push_items-loop-i l =
    names_of l.out.items ++ unused_items (unused_object l.left l.schema) (path_to l.list) l.i (left l.i l.items) ≡ names_of l.initial.out.items ++ unused_items (unused_object l.left l.schema) (path_to l.list) 0 (items_in (data_of l.list))
