use Rattle.std.proofs.Common.{◌≡◌, length}
use Rattle.ccr_history.specs.Conditions.{are_apart, is_same_input}
use Rattle.ccr_history.proofs.conditions.inputs_apart.Given as goal

abbrev pub invariant-loop-first : goal.invariant-loop-first
invariant-loop-first l = are_apart is_same_input l.left ≡ are_apart is_same_input l.fn.used

abbrev pub decreases-loop-first : goal.decreases-loop-first
decreases-loop-first l = length l.left
