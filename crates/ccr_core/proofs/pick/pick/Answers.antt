use Rattle.std.proofs.Common.{◌≡◌, Some, map, subst, sym}
use Rattle.ccr_history.specs.Text.{Text}
use Rattle.ccr_pipeline.specs.JobData.{JobData, job_data}
use Rattle.ccr_problem.specs.ProblemOf.{job_of}
use Rattle.ccr_core.proofs.pick.pick.Goals as goal

pub found-requires-clause-there : goal.found-requires-clause-there
found-requires-clause-there c =
    let js = map job_data c.args.pipeline.now.jobs.items in
    subst (λ (name : Text). (j : JobData) × (job_of name js ≡ Some j)) (sym c.as_str.ensures.value) (job_data c.args.job.now, c.requires.there)
