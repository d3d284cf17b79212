use Rattle.std.proofs.Common.{◌≡◌, ◌++◌, drop, map}
use Rattle.ccr_pipeline.specs.JobData.{job_data}
use Rattle.ccr_findings.specs.Cycles.{waiter_data, waits_in}
use Rattle.ccr_findings.proofs.cycle.waiters_of.Given as goal

abbrev pub invariant-loop-job : goal.invariant-loop-job
invariant-loop-job l = map waiter_data l.waiters.items ++ waits_in (map job_data (drop l.job-index l.jobs)) ≡ waits_in (map job_data l.jobs)
