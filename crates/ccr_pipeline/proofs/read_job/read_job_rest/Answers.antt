use Rattle.ccr_pipeline.proofs.NoteLemmas.{noted_append}
use Rattle.ccr_pipeline.proofs.read_job.read_job_rest.Goals as goal

pub returns-clause-noted : goal.returns-clause-noted
returns-clause-noted c = rw (c.in_ok-read_list.ensures.2, noted_append) at c.read_after_plan.ensures.noted
