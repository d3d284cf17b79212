use Rattle.std.proofs.Common.{◌∙◌, ap, map, List}
use Rattle.serde_json.specs.Written.{compact_text}
use Rattle.ccr_pipeline.specs.Inputs.{InputData, input_data}
use Rattle.ccr_lines.specs.Json.{list}
use Rattle.ccr_lines.specs.JobsJson.{input_json}
use Rattle.ccr_lines.proofs.JsonTexts.{array_of_each_seen}
use Rattle.ccr_lines.proofs.jobs_json.inputs_items.Goals as goal

pub returns : goal.returns
returns c =
    array_of_each_seen (λ i. input_json i) input_data c.deref.result.now c.in_ok-items.items.items c.in_ok-items.ensures
    ∙ ap (λ (is : List InputData). compact_text (list (map (λ i. input_json i) is)))
    (ap (λ x. map input_data x) c.deref.ensures.value ∙ c.in_ok-inputs.ensures.inputs)
