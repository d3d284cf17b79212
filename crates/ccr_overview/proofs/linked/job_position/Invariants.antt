use Rattle.std.proofs.Common.{◌≡◌, drop, map}
use Rattle.ccr_overview.specs.Linked.{job_from}
use Rattle.ccr_pipeline.specs.JobData.{job_data}
use Rattle.ccr_overview.proofs.linked.job_position.Given as goal

abbrev pub invariant-loop-k : goal.invariant-loop-k
invariant-loop-k l =
    job_from l.k l.name (map job_data (drop l.k l.jobs)) ≡ job_from 0 l.name (map job_data l.jobs)
