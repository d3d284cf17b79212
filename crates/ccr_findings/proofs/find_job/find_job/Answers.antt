use Rattle.ccr_findings.proofs.Jobs.{job_present, job_unknown, job_resources, job_jobs}
use Rattle.ccr_findings.proofs.find_job.find_job.Goals as goal

pub returns-clause-present : goal.returns-clause-present
returns-clause-present c = job_present _ _ _ _ _ _ _ c.in_ok-find_object.ensures.found c.find_plan.ensures

pub returns-clause-unknown : goal.returns-clause-unknown
returns-clause-unknown c = job_unknown _ _ _ _ _ c.find_plan.ensures

pub returns-clause-resources : goal.returns-clause-resources
returns-clause-resources c = job_resources _ _ _ _ _ c.find_plan.ensures

pub returns-clause-jobs : goal.returns-clause-jobs
returns-clause-jobs c = job_jobs _ _ _ _ _ c.find_plan.ensures
