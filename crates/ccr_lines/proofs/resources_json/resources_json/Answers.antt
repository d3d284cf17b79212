use Rattle.std.proofs.Common.{◌++◌, ◌∷◌, [], ◌∙◌, ap, map}
use Rattle.ccr_pipeline.specs.JobData.{resource_data}
use Rattle.ccr_lines.specs.Json.{array_of}
use Rattle.ccr_lines.specs.ResourcesJson.{resource_json, resources_json}
use Rattle.ccr_lines.proofs.JsonTexts.{array_of_each_seen, line_is}
use Rattle.ccr_lines.proofs.resources_json.resources_json.Goals as goal

pub returns : goal.returns
returns c =
    let h = c.args.history.now in
    line_is (resources_json h (map resource_data c.args.resources.now)) c.in_ok-items.items.items c.in_ok-text.text.items
    (array_of_each_seen (λ r. resource_json h r) resource_data c.args.resources.now c.in_ok-items.items.items
    c.in_ok-items.ensures)
    (c.in_ok-text.ensures ∙ ap (λ t. array_of t ++ 10 ∷ []) c.deref.ensures.value)
