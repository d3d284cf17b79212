use Rattle.std.proofs.Common.{◌∙◌, ap}
use Rattle.ccr_pipeline.specs.JobData.{job_data}
use Rattle.ccr_lines.specs.declared.outlook.Outlook.TheVariants.{NoneSatisfies}
use Rattle.ccr_lines.specs.Explained.{none_of}
use Rattle.ccr_lines.proofs.explain.explained_none.Goals as goal

pub returns : goal.returns
returns c = (
  c.in_ok-shown.shown,
  c.in_ok-shown.ensures,
  c.in_ok-explained.ensures ∙ ap (λ w. none_of (job_data c.args.job.now) NoneSatisfies w) c.in_ok-why.ensures,
)
