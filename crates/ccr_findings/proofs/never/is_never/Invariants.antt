use Rattle.std.proofs.Common.{◌≡◌, drop, map}
use Rattle.ccr_pipeline.specs.JobData.{job_data}
use Rattle.ccr_findings.specs.Objects.{is_never}
use Rattle.ccr_findings.proofs.never.is_never.Given as goal

abbrev pub invariant-loop-job : goal.invariant-loop-job
invariant-loop-job l = is_never (map job_data l.jobs) l.name l.resource ≡ is_never (map job_data (drop l.job-index l.jobs)) l.name l.resource
