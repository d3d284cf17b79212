use Rattle.std.proofs.Common.{◌≡◌, ◌++◌, List, Option, ℕ, map, drop}
use Rattle.ccr_pipeline.specs.JobData.{JobData, job_data}
use Rattle.ccr_pipeline.specs.Pipelines.{pipeline_data}
use Rattle.ccr_problem.specs.Passing.{taken_by}
use Rattle.ccr_problem.proofs.taken.taken_of.Given as goal

abbrev pub invariant-loop-job : goal.invariant-loop-job
invariant-loop-job l =
    let F : JobData → List (Option ℕ) = taken_by (pipeline_data l.pipeline) l.history l.name l.used in
    map (λ x. x.items) l.taken.items ++ map F (map job_data (drop l.job-index l.job-items)) ≡ map F (map job_data l.job-items)
