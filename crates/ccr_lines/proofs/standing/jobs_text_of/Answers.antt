use Rattle.std.proofs.Common.{◌∙◌, ap, map}
use Rattle.ccr_pipeline.specs.JobData.{resource_data}
use Rattle.ccr_pipeline.specs.Pipelines.{pipeline_data}
use Rattle.ccr_core.specs.Cores.{core_data}
use Rattle.ccr_lines.specs.JobsJson.{jobs_shown}
use Rattle.ccr_lines.specs.Standing.{next_data}
use Rattle.ccr_lines.proofs.standing.jobs_text_of.Goals as goal

pub returns : goal.returns
returns c =
    let h = (core_data c.args.core.now).history in
    let p = pipeline_data c.args.pipeline.now in
    let ns = map next_data c.in_ok-next.next.items in (
      ns,
      c.in_ok-next.ensures,
      c.in_ok-text.ensures
          ∙ (ap (λ rs. jobs_shown c.args.form rs c.history.result.now (map next_data c.deref.result.now)) c.resources.ensures
          ∙ (ap (λ x. jobs_shown c.args.form p.resources x (map next_data c.deref.result.now)) c.history.ensures
          ∙ ap (λ xs. jobs_shown c.args.form p.resources h (map next_data xs)) c.deref.ensures.value)),
    )
