use Rattle.std.proofs.Common.{◌≡◌, ◌++◌, ℕ, Option, map, drop}
use Rattle.ccr_choice.specs.Problem.{BuildValue}
use Rattle.ccr_pipeline.specs.Inputs.{inputs}
use Rattle.ccr_pipeline.specs.JobData.{JobData, job_data}
use Rattle.ccr_pipeline.specs.Pipelines.{pipeline_data}
use Rattle.ccr_problem.specs.Follows.{passed_to}
use Rattle.ccr_problem.specs.Passing.{passed_value}
use Rattle.ccr_problem.proofs.brought.passed_to_all.Given as goal

abbrev pub invariant-loop-job : goal.invariant-loop-job
invariant-loop-job l =
    let F : JobData → Option (ℕ × BuildValue) = λ j. passed_to (pipeline_data l.pipeline) l.history (inputs j.plan) l.name l.number l.pairs in
    map (passed_value l.number) l.to.items ++ map F (map job_data (drop l.job-index l.job-items)) ≡ map F (map job_data l.job-items)
