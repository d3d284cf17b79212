use Rattle.ccr_pipeline.specs.Pipelines.{pipeline_data}
use Rattle.ccr_core.specs.Cores.{core_data}
use Rattle.ccr_lines.proofs.Cores.{resources_made}
use Rattle.ccr_lines.proofs.standing.resources_made.Goals as goal

pub returns-clause-made : goal.returns-clause-made
returns-clause-made c =
    resources_made c.args.form (core_data c.args.core.now) (pipeline_data c.in-Ok.pipeline.now) c.history.result.now
    c.resources.result.now c.in_ok-text.text.items c.in-Ok.ensures.held c.history.ensures c.resources.ensures
    c.in_ok-text.ensures
