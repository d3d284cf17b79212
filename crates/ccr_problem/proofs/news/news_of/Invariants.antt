use Rattle.std.proofs.Common.{◌≡◌, ◌++◌, List, ℕ, map, drop}
use Rattle.ccr_pipeline.specs.Inputs.{inputs}
use Rattle.ccr_pipeline.specs.JobData.{JobData, job_data}
use Rattle.ccr_pipeline.specs.Pipelines.{pipeline_data}
use Rattle.ccr_problem.specs.Follows.{new_places}
use Rattle.ccr_problem.proofs.news.news_of.Given as goal

abbrev pub invariant-loop-job : goal.invariant-loop-job
invariant-loop-job l =
    let F : JobData → List (List ℕ) = λ j. map (new_places (pipeline_data l.pipeline) l.history l.report.scope l.report.first l.report.versions.items) (inputs j.plan) in
    map (λ x. map (λ y. y.items) x.items) l.news.items ++ map F (map job_data (drop l.job-index l.job-items)) ≡ map F (map job_data l.job-items)
