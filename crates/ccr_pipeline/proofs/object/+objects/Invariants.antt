use Rattle.std.proofs.Common.{◌≡◌, ◌+◌, ◌*◌, ◌++◌, [], drop}
use Rattle.ccr_history.proofs.Items.{left}
use Rattle.ccr_pipeline.specs.Keys.{data_of, path_to, items_in}
use Rattle.ccr_pipeline.specs.Objects.{key_faults, new_names, each_object, value_faults}
use Rattle.ccr_pipeline.specs.Schema.{rows}
use Rattle.ccr_pipeline.proofs.object.+objects.Given as goal

abbrev pub decreases-check_value : goal.decreases-check_value
decreases-check_value l = 7 * l.left

abbrev pub decreases-check_row : goal.decreases-check_row
decreases-check_row l = 7 * l.left + 1

abbrev pub decreases-check_rows : goal.decreases-check_rows
decreases-check_rows l = 7 * l.left + 2

abbrev pub decreases-check_object : goal.decreases-check_object
decreases-check_object l = 7 * l.left + 3

abbrev pub decreases-check_objects : goal.decreases-check_objects
decreases-check_objects l = 7 * l.left + 4

abbrev pub decreases-check_alone : goal.decreases-check_alone
decreases-check_alone l = 7 * l.left + 5

abbrev pub decreases-check_inside : goal.decreases-check_inside
decreases-check_inside l = 7 * l.left + 6

abbrev pub invariant-check_rows-loop-row : goal.invariant-check_rows-loop-row
invariant-check_rows-loop-row l = record {
  checked : key_faults (value_faults l.left) l.initial.names (rows l.rows) (path_to l.object) (data_of l.object) ≡ key_faults (value_faults l.left) l.names (rows (drop l.row-index l.rows)) (path_to l.object) (data_of l.object);
  added : l.names ++ new_names (rows (drop l.row-index l.rows)) (data_of l.object) ≡ l.initial.names ++ new_names (rows l.rows) (data_of l.object);
}

abbrev pub invariant-check_objects-loop-i : goal.invariant-check_objects-loop-i
invariant-check_objects-loop-i l = each_object (value_faults l.left) [] l.schema (path_to l.list) 0 (items_in (data_of l.list)) ≡ each_object (value_faults l.left) l.names l.schema (path_to l.list) l.i (left l.i l.members)
