use Rattle.ccr_pipeline.proofs.PlansKept.{kept_job}
use Rattle.ccr_pipeline.proofs.read_job.read_job.Goals as goal

pub job_of-requires-clause-job : goal.job_of-requires-clause-job
job_of-requires-clause-job c = kept_job _ _ _ c.in_ok-check_object.ensures.checked c.in_ok-plan.ensures.checked.0
