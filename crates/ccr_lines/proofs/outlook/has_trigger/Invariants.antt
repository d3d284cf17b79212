use Rattle.std.proofs.Common.{◌≡◌, map, drop}
use Rattle.ccr_pipeline.specs.Inputs.{input_data}
use Rattle.ccr_lines.specs.Outlooks.{has_trigger}
use Rattle.ccr_lines.proofs.outlook.has_trigger.Given as goal

abbrev pub invariant-loop-input : goal.invariant-loop-input
invariant-loop-input l =
    has_trigger (map input_data (drop l.input-index l.inputs)) ≡ has_trigger (map input_data l.inputs)
