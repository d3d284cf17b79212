use Rattle.std.proofs.Common.{◌≡◌, map, drop}
use Rattle.ccr_pipeline.specs.Inputs.{input_data}
use Rattle.ccr_lines.specs.BuildCertificates.{has_input}
use Rattle.ccr_lines.proofs.taken.has_input.Given as goal

abbrev pub invariant-loop-input : goal.invariant-loop-input
invariant-loop-input l =
    has_input (map input_data (drop l.input-index l.inputs)) l.name ≡ has_input (map input_data l.inputs) l.name
