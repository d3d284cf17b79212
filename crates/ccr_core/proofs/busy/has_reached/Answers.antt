use Rattle.std.proofs.Common.{◌∙◌, ap, map, count_by, bytes_eq}
use Rattle.ccr_pipeline.specs.JobData.{job_data}
use Rattle.ccr_problem.specs.Limit.{limit_of, has_reached}
use Rattle.ccr_core.specs.Holding.{name_data}
use Rattle.ccr_core.proofs.busy.has_reached.Goals as goal

pub returns : goal.returns
returns c =
    c.has_reached.ensures
    ∙ ap (has_reached (limit_of (job_data c.args.job.now))) (
    c.count_of.ensures ∙ ap (λ name. count_by (λ n. bytes_eq name n.0) (map name_data c.args.names.now)) c.as_str.ensures.value
    )
