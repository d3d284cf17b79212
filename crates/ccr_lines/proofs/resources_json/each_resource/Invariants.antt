use Rattle.std.proofs.Common.{◌≡◌, take, flat_map}
use Rattle.ccr_pipeline.specs.JobData.{resource_data}
use Rattle.ccr_lines.specs.Json.{after_comma}
use Rattle.ccr_lines.specs.ResourcesJson.{resource_json}
use Rattle.ccr_lines.proofs.resources_json.each_resource.Given as goal

abbrev pub invariant-loop-resource : goal.invariant-loop-resource
invariant-loop-resource l =
    l.out.items
    ≡ flat_map (λ r. after_comma (resource_json l.history (resource_data r))) (take l.resource-index l.resources)
