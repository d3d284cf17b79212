use Rattle.std.proofs.Common.{◌≡◌, map, take, flat_map}
use Rattle.ccr_pipeline.specs.JobData.{resource_data, job_data}
use Rattle.ccr_lines.specs.Json.{after_comma}
use Rattle.ccr_lines.specs.JobsJson.{job_json}
use Rattle.ccr_lines.proofs.jobs_json.each_job.Given as goal

abbrev pub invariant-loop-it : goal.invariant-loop-it
invariant-loop-it l =
    l.out.items
    ≡ flat_map (λ n. after_comma (job_json (map resource_data l.resources) l.history (job_data n.job.now) n.outlook))
    (take l.it-index l.next)
