use Rattle.std.proofs.Common.{◌≡◌, ◌++◌, map, drop}
use Rattle.ccr_pipeline.specs.Inputs.{input_data, inputs_in}
use Rattle.ccr_pipeline.specs.Tree.{tree_of, trees_of}
use Rattle.ccr_pipeline.proofs.input.+inputs.Given as goal

abbrev pub invariant-push_each-loop-step : goal.invariant-push_each-loop-step
invariant-push_each-loop-step l = map input_data l.out.items ++ inputs_in (trees_of (map tree_of (drop l.step-index l.step-items))) ≡ map input_data l.initial.out.items ++ inputs_in (trees_of (map tree_of l.step-items))
