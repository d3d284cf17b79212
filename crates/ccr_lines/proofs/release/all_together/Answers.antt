use Rattle.std.proofs.Common.{◌∙◌, ap, map, take, option_map, option_copied}
use Rattle.ccr_pipeline.specs.Inputs.{input_data}
use Rattle.ccr_pipeline.specs.Pipelines.{pipeline_data}
use Rattle.ccr_lines.specs.Releases.{together_data, inputs_in_plan}
use Rattle.ccr_lines.proofs.GoneTogether.{together_told}
use Rattle.ccr_lines.proofs.release.all_together.Goals as goal

pub returns : goal.returns
returns c =
    together_told (pipeline_data c.in-Some.pipeline.now) (option_map pipeline_data (option_copied c.args.pipeline))
    (take c.args.before c.args.history.now.builds) c.args.build.now c.jobs.result.now
    (map input_data c.deref.result.now) (map together_data c.in_ok-found.found.items)
    (ap (λ x. option_map pipeline_data (option_copied x)) c.in-Some.is) c.jobs.ensures
    (ap (λ x. map input_data x) c.deref.ensures.value ∙ (c.in_ok-inputs.ensures
    ∙ ap (λ x. inputs_in_plan (pipeline_data c.in-Some.pipeline.now) x) c.job.ensures)) c.in_ok-found.ensures
