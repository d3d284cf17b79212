use Rattle.std.proofs.Common.{◌≡◌, ◌++◌, drop, length, map}
use Rattle.ccr_overview.specs.Arrows.{put_arrow}
use Rattle.ccr_overview.specs.Each.{each_from}
use Rattle.ccr_pipeline.specs.JobData.{job_data, resource_data}
use Rattle.ccr_overview.proofs.arrow.push_arrows_from.Given as goal

abbrev pub invariant-loop-n : goal.invariant-loop-n
invariant-loop-n l =
    l.out.items ++ each_from (put_arrow (length l.resources) l.k (job_data l.told.job.now).plan) l.n (map resource_data (drop l.n l.resources)) ≡ l.fn.out.items ++ each_from (put_arrow (length l.resources) l.k (job_data l.told.job.now).plan) 0 (map resource_data l.resources)
