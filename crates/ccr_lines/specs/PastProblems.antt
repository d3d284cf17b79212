-- The problem that a build answered: what it could take, where the versions are those of today.
use Rattle.std.specs.Prelude.{ℕ, List, [], map, None}
use Rattle.std.specs.List.{range_with_len}
use Rattle.ccr_history.specs.Text.{Text}
use Rattle.ccr_history.specs.Builds.{BuildData}
use Rattle.ccr_history.specs.History.{HistoryData, places_at}
use Rattle.ccr_pipeline.specs.Inputs.{InputData, named_jobs}
use Rattle.ccr_pipeline.specs.Pipelines.{PipelineData}
use Rattle.ccr_choice.specs.Problem.{InputValue, ProblemValue}
use Rattle.ccr_problem.specs.Numbering.{each_once, number_of}
use Rattle.ccr_problem.specs.Passed.{job_value}
use Rattle.ccr_problem.specs.ProblemOf.{history_number, used_resources}

-- an input as in the problem of today, but that it may take each version of its scope, whatever is pinned or disabled, and
-- that no place is kept
abbrev pub open_input : PipelineData → HistoryData → List Text → List Text → InputData → InputValue
open_input p h resources jobs i = record {
  scope = number_of resources i.resource;
  places = range_with_len 1 (places_at h.tables (history_number p h i.resource));
  jobs = map (number_of jobs) (each_once i.passed);
  after = None;
}

-- THE PROBLEM OF INPUTS WITH THESE BUILDS ALONE, which were made before another: scopes and jobs are numbered as in the
-- problem of today, and each job has those of its successful builds that are among them, newest first
abbrev pub past_problem : PipelineData → HistoryData → List BuildData → List InputData → ProblemValue
past_problem p h before is =
    let resources : List Text = used_resources is in
    let jobs : List Text = named_jobs [] is in
    let scopes : List ℕ = map (history_number p h) resources in
    record { inputs = map (open_input p h resources jobs) is; jobs = map (job_value before scopes) jobs }
