use Rattle.std.proofs.Common.{◌≡◌, ◌++◌, drop, map}
use Rattle.ccr_pipeline.specs.JobData.{job_data}
use Rattle.ccr_findings.specs.Absent.{absent_in_jobs}
use Rattle.ccr_findings.specs.Findings.{findings_data}
use Rattle.ccr_findings.proofs.absent.find_absent.Given as goal

abbrev pub invariant-loop-job : goal.invariant-loop-job
invariant-loop-job l = findings_data l.out.items ++ absent_in_jobs (map job_data (drop l.job-index l.jobs)) ≡ findings_data l.initial.out.items ++ absent_in_jobs (map job_data l.jobs)
