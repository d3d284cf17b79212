use Rattle.ccr_pipeline.specs.JobData.{job_data}
use Rattle.ccr_pipeline.specs.Pipelines.{pipeline_data}
use Rattle.ccr_core.specs.Cores.{core_data}
use Rattle.ccr_lines.proofs.Explaining.{explained_same}
use Rattle.ccr_lines.proofs.explain.explained_in.Goals as goal

pub returns : goal.returns
returns c =
    explained_same (pipeline_data c.args.pipeline.now) (core_data c.args.core.now).history
    (core_data c.args.core.now).budget (job_data c.args.job.now) c.history.result.now c.budget.result
    c.explained_of.result c.history.ensures c.budget.ensures c.explained_of.ensures
