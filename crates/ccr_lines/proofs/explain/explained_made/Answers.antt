use Rattle.ccr_pipeline.specs.JobData.{job_data}
use Rattle.ccr_pipeline.specs.Pipelines.{pipeline_data}
use Rattle.ccr_core.proofs.Owning.{job_at}
use Rattle.ccr_core.specs.Cores.{core_data}
use Rattle.ccr_lines.proofs.Explaining.{explained_made}
use Rattle.ccr_lines.proofs.explain.explained_made.Goals as goal

pub explained_in-requires-clause-there : goal.explained_in-requires-clause-there
explained_in-requires-clause-there c =
    job_at c.args.name.now (pipeline_data c.in-Ok.held.0.now).jobs (job_data c.in-Ok.held.1.now) c.in-Ok.ensures.there

pub returns-clause-made : goal.returns-clause-made
returns-clause-made c =
    explained_made c.args.form (core_data c.args.core.now) (pipeline_data c.in-Ok.held.0.now) c.args.name.now
    (job_data c.in-Ok.held.1.now) c.in_ok-explained.explained c.in_ok-shown.shown.0 c.in_ok-shown.shown.1.items
    c.in-Ok.ensures.held c.in-Ok.ensures.there c.in_ok-explained.ensures c.in_ok-shown.ensures.status
    c.in_ok-shown.ensures.text
