use Rattle.std.proofs.Common.{◌≡◌, take, flat_map}
use Rattle.ccr_pipeline.specs.JobData.{resource_data, job_data}
use Rattle.ccr_lines.specs.Json.{after_comma}
use Rattle.ccr_lines.specs.JobsJson.{output_of}
use Rattle.ccr_lines.proofs.jobs_json.each_output.Given as goal

abbrev pub invariant-loop-resource : goal.invariant-loop-resource
invariant-loop-resource l =
    l.out.items
    ≡ flat_map (λ r. flat_map after_comma (output_of (job_data l.job).plan (resource_data r)))
    (take l.resource-index l.resources)
