use Rattle.std.proofs.Common.{rules, append_assoc, refl, sym, ◌∙◌}
use Rattle.ccr_pipeline.proofs.Faulted.{checks_as_fault, first_append}
use Rattle.ccr_pipeline.proofs.NoteLemmas.{noted_append, noted_end}
use Rattle.ccr_pipeline.proofs.read_job.read_jobs.Goals as goal

pub loop-text-preserved : goal.loop-text-preserved
loop-text-preserved c = record {
  checked = rw (c.loop-text.invariant.checked, c.in-Some.ensures.steps.0, c.in_ok-push_job.ensures.checked, c.in_ok-push_job.ensures.named, c.in_ok-push_job.ensures.counted) refl;
  built = rw (c.in_ok-push_job.ensures.added, append_assoc) (rw c.in-Some.ensures.steps.0 at c.loop-text.invariant.built);
  noted = rw (c.in_ok-push_job.ensures.noted, c.in_ok-push_job.ensures.counted, noted_append) (rw c.in-Some.ensures.steps.0 at c.loop-text.invariant.noted);
  counted = search rules;
}

pub returns-in_err-push_job-clause-checked : goal.returns-in_err-push_job-clause-checked
returns-in_err-push_job-clause-checked c =
    checks_as_fault _ _ _ _ _ c.from_residual.ensures.1
    (rw (c.loop-text.invariant.checked, c.in-Some.ensures.steps.0) (first_append _ _ _ c.in_err-push_job.ensures.checked))

pub returns-clause-noted : goal.returns-clause-noted
returns-clause-noted c = sym (noted_end _ _ _ (sym c.loop-text.invariant.counted ∙ c.in-None.ensures.steps.0)) ∙ c.loop-text.invariant.noted
