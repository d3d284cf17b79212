use Rattle.std.proofs.Common.{◌≡◌, take, flat_map, string_bytes}
use Rattle.ccr_pipeline.specs.JobData.{job_data}
use Rattle.ccr_lines.specs.Standing.{job_state}
use Rattle.ccr_lines.proofs.standing.jobs_text.Given as goal

abbrev pub invariant-loop-it : goal.invariant-loop-it
invariant-loop-it l =
    string_bytes l.text
    ≡ flat_map (λ n. job_state l.history (job_data n.job.now) n.outlook) (take l.it-index l.next)
