use Rattle.std.proofs.Common.{◌∙◌, ap₂, sym, map, ◌||◌}
use Rattle.ccr_pipeline.specs.JobData.{job_data}
use Rattle.ccr_pipeline.specs.Pipelines.{pipeline_data}
use Rattle.ccr_core.specs.Holding.{name_data}
use Rattle.ccr_core.proofs.Busying.{busy_named}
use Rattle.ccr_core.proofs.busy.is_busy.Goals as goal

pub returns-else-has_reached : goal.returns-else-has_reached
returns-else-has_reached c = λ running e.
    busy_named (pipeline_data c.args.pipeline.now).jobs (job_data c.args.job.now) running (map name_data c.args.names.now) e
    ∙ ap₂ (λ t u. t || u) (sym c.has_reached.ensures ∙ c.if-has_reached.false) (sym c.is_shut_out.ensures)
