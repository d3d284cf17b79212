use Rattle.ccr_pipeline.specs.JobData.{job_data}
use Rattle.ccr_pipeline.specs.Pipelines.{pipeline_data}
use Rattle.ccr_core.specs.Cores.{core_data}
use Rattle.ccr_lines.proofs.Cores.{outlook_of_same}
use Rattle.ccr_lines.proofs.outlook.outlook_of.Goals as goal

pub returns : goal.returns
returns c =
    outlook_of_same (pipeline_data c.args.pipeline.now) (core_data c.args.core.now).history
    (core_data c.args.core.now).budget (job_data c.args.job.now) c.history.result.now c.budget.result
    c.outlook_by.result c.history.ensures c.budget.ensures c.outlook_by.ensures
