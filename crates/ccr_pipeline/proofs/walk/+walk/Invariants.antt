use Rattle.std.proofs.Common.{◌+◌, ◌*◌}
use Rattle.serde_json.specs.View.{items_view}
use Rattle.ccr_history.proofs.Items.{left}
use Rattle.ccr_pipeline.specs.Keys.{path_to}
use Rattle.ccr_pipeline.specs.Notes.{notes_data}
use Rattle.ccr_pipeline.specs.Places.{each_step, steps_from}
use Rattle.ccr_pipeline.proofs.Visits.{Goes}
use Rattle.ccr_pipeline.proofs.walk.+walk.Given as goal

abbrev pub decreases-read_step : goal.decreases-read_step
decreases-read_step l = 5 * l.reach.left

abbrev pub decreases-read_list : goal.decreases-read_list
decreases-read_list l = 5 * l.reach.left + 1

abbrev pub decreases-read_at : goal.decreases-read_at
decreases-read_at l = 5 * l.reach.left + 1

abbrev pub decreases-read_parallel : goal.decreases-read_parallel
decreases-read_parallel l = 5 * l.reach.left + 2

abbrev pub decreases-read_own : goal.decreases-read_own
decreases-read_own l = 5 * l.reach.left + 3

abbrev pub decreases-read_hooks : goal.decreases-read_hooks
decreases-read_hooks l = 5 * l.reach.left + 3

abbrev pub invariant-read_list-loop-i : goal.invariant-read_list-loop-i
invariant-read_list-loop-i l =
    Goes l.initial.notes.gets (notes_data l.initial.notes) (each_step (steps_from l.reach.left) l.reach.tries (path_to l.found) 0 (items_view l.list)) l.notes.gets (notes_data l.notes) (each_step (steps_from l.reach.left) l.reach.tries (path_to l.found) l.i (left l.i l.list))
