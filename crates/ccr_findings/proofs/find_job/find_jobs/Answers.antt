use Rattle.std.proofs.Common.{◌∙◌, codes}
use Rattle.ccr_history.proofs.Items.{left_of-cons}
use Rattle.ccr_pipeline.specs.JobRules.{job_faults}
use Rattle.ccr_findings.proofs.Jobs.{members_on, unknown_on}
use Rattle.ccr_findings.proofs.find_job.find_jobs.Goals as goal

pub loop-i-preserved : goal.loop-i-preserved
loop-i-preserved c = record {
  present =
      members_on job_faults c.loop-i.hunt.present _ _ c.loop-i.names _ (codes "jobs") c.loop-i.i _ _ (rw (left_of-cons _ _ _ _ c.loop-i-test.true c.index-list-i.is) at c.loop-i.invariant.present)
      (rw (c.member-place.ensures, c.top-all.ensures) at c.in_ok-find_job.ensures.present) c.in_ok-find_job.ensures.named;
  unknown =
      unknown_on _ _ _ _ c.loop-i.hunt.unknown _ _ c.loop-i.i _ _ c.loop-i.invariant.resources c.loop-i.invariant.jobs
      (rw (left_of-cons _ _ _ _ c.loop-i-test.true c.index-list-i.is) at c.loop-i.invariant.unknown)
      (rw (c.member-place.ensures, c.top-all.ensures) at c.in_ok-find_job.ensures.unknown);
  resources = c.in_ok-find_job.ensures.resources ∙ c.loop-i.invariant.resources;
  jobs = c.in_ok-find_job.ensures.jobs ∙ c.loop-i.invariant.jobs;
}
