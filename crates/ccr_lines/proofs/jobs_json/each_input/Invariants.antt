use Rattle.std.proofs.Common.{◌≡◌, take, flat_map}
use Rattle.ccr_pipeline.specs.Inputs.{input_data}
use Rattle.ccr_lines.specs.Json.{after_comma}
use Rattle.ccr_lines.specs.JobsJson.{input_json}
use Rattle.ccr_lines.proofs.jobs_json.each_input.Given as goal

abbrev pub invariant-loop-input : goal.invariant-loop-input
invariant-loop-input l =
    l.out.items ≡ flat_map (λ i. after_comma (input_json (input_data i))) (take l.input-index l.inputs)
