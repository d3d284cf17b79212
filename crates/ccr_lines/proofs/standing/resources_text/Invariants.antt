use Rattle.std.proofs.Common.{◌≡◌, take, flat_map, string_bytes}
use Rattle.ccr_pipeline.specs.JobData.{resource_data}
use Rattle.ccr_lines.specs.Standing.{resource_line}
use Rattle.ccr_lines.proofs.standing.resources_text.Given as goal

abbrev pub invariant-loop-resource : goal.invariant-loop-resource
invariant-loop-resource l =
    string_bytes l.text
    ≡ flat_map (λ r. resource_line l.history (resource_data r)) (take l.resource-index l.resources)
