use Rattle.std.proofs.Common.{◌∙◌, ap, Err}
use Rattle.ccr_pipeline.specs.Pipelines.{pipeline_data}
use Rattle.ccr_lines.proofs.Showing.{there}
use Rattle.ccr_lines.proofs.problem.problem_in.Goals as goal

pub unreachable-requires : goal.unreachable-requires
unreachable-requires c =
    there c.args.job.now (pipeline_data c.args.pipeline.now).jobs c.requires
    (c.problem_of.ensures.no_job.0 (c.in-Err-NoJob.is ∙ ap Err c.in-Err-NoJob.field-0-is))
