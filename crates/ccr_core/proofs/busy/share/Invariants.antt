use Rattle.std.proofs.Common.{◌≡◌, drop, map, string_bytes}
use Rattle.std.specs.List.{list_any}
use Rattle.ccr_pipeline.specs.JobData.{job_data}
use Rattle.ccr_pipeline.specs.Names.{has_name}
use Rattle.ccr_core.proofs.busy.share.Given as goal

abbrev pub invariant-loop-group : goal.invariant-loop-group
invariant-loop-group l =
    list_any (has_name (job_data l.other).serial_groups) (map string_bytes (drop l.group-index l.job.serial_groups.items))
    ≡ list_any (has_name (job_data l.other).serial_groups) (map string_bytes l.job.serial_groups.items)
