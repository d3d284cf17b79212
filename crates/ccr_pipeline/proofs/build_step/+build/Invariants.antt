use Rattle.std.proofs.Common.{◌≡◌, ◌+◌, ◌*◌, ◌++◌, map}
use Rattle.serde_json.specs.View.{items_view}
use Rattle.ccr_pipeline.specs.Tree.{tree_of}
use Rattle.ccr_pipeline.specs.Steps.{each_tree, step_tree}
use Rattle.ccr_history.proofs.Items.{left}
use Rattle.ccr_pipeline.proofs.build_step.+build.Given as goal

abbrev pub decreases-step_of : goal.decreases-step_of
decreases-step_of l = 7 * l.left

abbrev pub decreases-add_hook : goal.decreases-add_hook
decreases-add_hook l = 7 * l.left + 1

abbrev pub decreases-steps_of : goal.decreases-steps_of
decreases-steps_of l = 7 * l.left + 1

abbrev pub decreases-add_hooks : goal.decreases-add_hooks
decreases-add_hooks l = 7 * l.left + 2

abbrev pub decreases-holder_of : goal.decreases-holder_of
decreases-holder_of l = 7 * l.left + 4

abbrev pub decreases-action_of : goal.decreases-action_of
decreases-action_of l = 7 * l.left + 5

abbrev pub invariant-steps_of-loop-member : goal.invariant-steps_of-loop-member
invariant-steps_of-loop-member l = map tree_of l.steps.items ++ each_tree (step_tree l.left) (left l.member-index l.list) ≡ each_tree (step_tree l.left) (items_view l.list)
