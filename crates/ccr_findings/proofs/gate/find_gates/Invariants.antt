use Rattle.std.proofs.Common.{◌≡◌, ◌++◌, drop, map}
use Rattle.ccr_pipeline.specs.JobData.{job_data}
use Rattle.ccr_findings.specs.Findings.{findings_data}
use Rattle.ccr_findings.specs.Gates.{gates_in}
use Rattle.ccr_findings.proofs.gate.find_gates.Given as goal

abbrev pub invariant-loop-job : goal.invariant-loop-job
invariant-loop-job l = findings_data l.out.items ++ gates_in (map job_data (drop l.job-index l.jobs)) ≡ findings_data l.initial.out.items ++ gates_in (map job_data l.jobs)
