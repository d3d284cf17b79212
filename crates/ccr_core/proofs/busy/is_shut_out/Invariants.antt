use Rattle.std.proofs.Common.{◌≡◌, drop, map}
use Rattle.std.specs.List.{list_any}
use Rattle.ccr_pipeline.specs.JobData.{job_data}
use Rattle.ccr_pipeline.specs.Pipelines.{pipeline_data}
use Rattle.ccr_core.specs.Holding.{name_data}
use Rattle.ccr_core.specs.Picking.{shuts_out}
use Rattle.ccr_core.proofs.busy.is_shut_out.Given as goal

abbrev pub invariant-loop-name : goal.invariant-loop-name
invariant-loop-name l =
    list_any (shuts_out (pipeline_data l.pipeline).jobs (job_data l.job)) (map name_data (drop l.name-index l.names))
    ≡ list_any (shuts_out (pipeline_data l.pipeline).jobs (job_data l.job)) (map name_data l.names)
