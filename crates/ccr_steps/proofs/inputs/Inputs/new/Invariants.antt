use Rattle.std.proofs.Common.{◌≡◌, ◌++◌, map, drop}
use Rattle.ccr_pipeline.specs.Inputs.{input_data}
use Rattle.ccr_pipeline.specs.Limits.{input_names}
use Rattle.ccr_pipeline.specs.Tree.{tree_of}
use Rattle.ccr_steps.specs.Asks.{chosen}
use Rattle.ccr_steps.specs.Inputs.{chosen_data}
use Rattle.ccr_steps.proofs.inputs.Inputs.new.Given as goal

abbrev pub invariant-loop-i : goal.invariant-loop-i
invariant-loop-i l = map chosen_data l.chosen.items ++ chosen (map (λ i. i.name) (map input_data (drop l.i l.wanted.items))) (drop l.i l.versions) ≡ chosen (input_names (tree_of l.job.plan.value)) l.versions
