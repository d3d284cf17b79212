use Rattle.std.proofs.Common.{◌≡◌, map, drop}
use Rattle.ccr_pipeline.specs.JobData.{job_data}
use Rattle.ccr_pipeline.specs.Named.{job_of}
use Rattle.ccr_pipeline.proofs.pipeline.Pipeline.job.Given as goal

abbrev pub invariant-loop-job : goal.invariant-loop-job
invariant-loop-job l = job_of l.name (map job_data (drop l.job-index l.self.jobs.items)) ≡ job_of l.name (map job_data l.self.jobs.items)
