use Rattle.std.proofs.Common.{◌≡◌, ◌++◌, map, drop}
use Rattle.ccr_choice.specs.Problem.{ProblemValue}
use Rattle.ccr_pipeline.specs.Inputs.{inputs}
use Rattle.ccr_pipeline.specs.JobData.{JobData, job_data}
use Rattle.ccr_pipeline.specs.Pipelines.{pipeline_data}
use Rattle.ccr_problem.specs.ProblemOf.{problem_with}
use Rattle.ccr_problem.specs.Indexes.{problems}
use Rattle.ccr_problem.proofs.indexes.indexes_of.Given as goal

abbrev pub invariant-loop-job : goal.invariant-loop-job
invariant-loop-job l =
    let F : JobData → ProblemValue = λ j. problem_with (pipeline_data l.pipeline) l.history j.name (inputs j.plan) in
    problems l.indexes.items ++ map F (map job_data (drop l.job-index l.job-items)) ≡ map F (map job_data l.job-items)
