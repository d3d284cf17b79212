use Rattle.std.proofs.Common.{◌≡◌, ◌+◌, ◌*◌}
use Rattle.serde_json.specs.View.{items_view}
use Rattle.ccr_history.proofs.Items.{left}
use Rattle.ccr_pipeline.specs.Keys.{path_to}
use Rattle.ccr_pipeline.specs.Places.{each_step, steps_from}
use Rattle.ccr_findings.specs.Hunts.{hunt_data, with_found}
use Rattle.ccr_findings.proofs.find_walk.+hunts.Given as goal

abbrev pub decreases-find_steps : goal.decreases-find_steps
decreases-find_steps l = 5 * l.reach.left

abbrev pub decreases-find_list : goal.decreases-find_list
decreases-find_list l = 5 * l.reach.left + 1

abbrev pub decreases-find_at : goal.decreases-find_at
decreases-find_at l = 5 * l.reach.left + 1

abbrev pub decreases-find_parallel : goal.decreases-find_parallel
decreases-find_parallel l = 5 * l.reach.left + 2

abbrev pub decreases-find_own : goal.decreases-find_own
decreases-find_own l = 5 * l.reach.left + 3

abbrev pub decreases-find_hooks : goal.decreases-find_hooks
decreases-find_hooks l = 5 * l.reach.left + 3

abbrev pub invariant-find_list-loop-i : goal.invariant-find_list-loop-i
invariant-find_list-loop-i l =
    with_found (hunt_data l.hunt) (each_step (steps_from l.reach.left) l.reach.tries (path_to l.found) l.i (left l.i l.list))
    ≡ with_found (hunt_data l.initial.hunt) (each_step (steps_from l.reach.left) l.reach.tries (path_to l.found) 0 (items_view l.list))
