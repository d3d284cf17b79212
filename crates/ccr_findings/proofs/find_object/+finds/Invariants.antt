use Rattle.std.proofs.Common.{◌≡◌, ◌+◌, ◌*◌, ◌++◌, [], drop}
use Rattle.ccr_history.proofs.Items.{left}
use Rattle.ccr_pipeline.specs.Keys.{data_of, path_to, items_in}
use Rattle.ccr_pipeline.specs.Objects.{key_faults, new_names, each_object, value_faults}
use Rattle.ccr_pipeline.specs.Schema.{rows}
use Rattle.ccr_findings.proofs.find_object.+finds.Given as goal

abbrev pub decreases-find_value : goal.decreases-find_value
decreases-find_value l = 7 * l.left

abbrev pub decreases-find_row : goal.decreases-find_row
decreases-find_row l = 7 * l.left + 1

abbrev pub decreases-find_rows : goal.decreases-find_rows
decreases-find_rows l = 7 * l.left + 2

abbrev pub decreases-find_object : goal.decreases-find_object
decreases-find_object l = 7 * l.left + 3

abbrev pub decreases-find_objects : goal.decreases-find_objects
decreases-find_objects l = 7 * l.left + 4

abbrev pub decreases-find_alone : goal.decreases-find_alone
decreases-find_alone l = 7 * l.left + 5

abbrev pub decreases-find_inside : goal.decreases-find_inside
decreases-find_inside l = 7 * l.left + 6

abbrev pub invariant-find_rows-loop-row : goal.invariant-find_rows-loop-row
invariant-find_rows-loop-row l = record {
  found : l.out ++ key_faults (value_faults l.left) l.names (rows (drop l.row-index l.rows)) (path_to l.object) (data_of l.object) ≡ l.initial.out ++ key_faults (value_faults l.left) l.initial.names (rows l.rows) (path_to l.object) (data_of l.object);
  added : l.names ++ new_names (rows (drop l.row-index l.rows)) (data_of l.object) ≡ l.initial.names ++ new_names (rows l.rows) (data_of l.object);
}

abbrev pub invariant-find_objects-loop-i : goal.invariant-find_objects-loop-i
invariant-find_objects-loop-i l = l.out ++ each_object (value_faults l.left) l.names l.schema (path_to l.list) l.i (left l.i l.members) ≡ l.initial.out ++ each_object (value_faults l.left) [] l.schema (path_to l.list) 0 (items_in (data_of l.list))
