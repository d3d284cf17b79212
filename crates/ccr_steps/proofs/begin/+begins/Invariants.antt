use Rattle.std.proofs.Common.{◌≡◌, drop, map}
use Rattle.ccr_pipeline.specs.Tree.{tree_of, trees_of}
use Rattle.ccr_steps.specs.Asks.{Chosen}
use Rattle.ccr_steps.specs.Gains.{gains_data}
use Rattle.ccr_steps.specs.Play.{and_then, and_worse_end, play_in_order, play_all}
use Rattle.ccr_steps.proofs.begin.+begins.Given as goal

abbrev pub invariant-begin_in_order-loop-i : goal.invariant-begin_in_order-loop-i
invariant-begin_in_order-loop-i l = (l.frames.items ≡ l.fn.frames.items) × ((c : Chosen) → play_in_order c (trees_of (map tree_of (drop l.from l.steps))) (gains_data l.gains) ≡ play_in_order c (trees_of (map tree_of (drop l.i l.steps))) (gains_data l.gains))

abbrev pub invariant-begin_all-loop-i : goal.invariant-begin_all-loop-i
invariant-begin_all-loop-i l = (l.frames.items ≡ l.fn.frames.items) × ((c : Chosen) → and_then (play_all c (trees_of (map tree_of (drop l.from l.steps))) (gains_data l.gains)) (and_worse_end l.fn.worst) ≡ and_then (play_all c (trees_of (map tree_of (drop l.i l.steps))) (gains_data l.gains)) (and_worse_end l.worst))
