use Rattle.std.proofs.Common.{◌≡◌, ◌++◌, map, drop, string_bytes}
use Rattle.ccr_pipeline.specs.JobData.{job_data}
use Rattle.ccr_serve.proofs.names.job_names.Given as goal

abbrev pub invariant-loop-job : goal.invariant-loop-job
invariant-loop-job l =
    map string_bytes l.names.items ++ map (λ j. j.name) (map job_data (drop l.job-index l.jobs))
    ≡ map (λ j. j.name) (map job_data l.jobs)
