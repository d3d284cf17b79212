use Rattle.std.proofs.Common.{◌≡◌, ◌++◌, drop, map}
use Rattle.ccr_overview.specs.Abouts.{put_at}
use Rattle.ccr_overview.specs.Each.{each_from}
use Rattle.ccr_pipeline.specs.JobData.{job_data, resource_data}
use Rattle.ccr_overview.proofs.about.puts_of.Given as goal

abbrev pub invariant-loop-k : goal.invariant-loop-k
invariant-loop-k l =
    map (λ r. (r.0, r.1.now)) l.found.items ++ each_from (put_at (job_data l.job).plan) l.k (map resource_data (drop l.k l.resources)) ≡ each_from (put_at (job_data l.job).plan) 0 (map resource_data l.resources)
