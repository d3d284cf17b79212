-- The problem of a job: what has to be chosen for its next build, in a pipeline with a history.
use Rattle.std.specs.Prelude.{◌≡◌, ℕ, List, [], map, Bool, true, false, Option, Some, None, IsSomeAnd, if◌then◌else◌}
use Rattle.std.specs.Option.{option_map_or}
use Rattle.ccr_history.specs.Text.{Text}
use Rattle.ccr_history.specs.TextMap.{TextMap}
use Rattle.ccr_history.specs.Tables.{versions_of, scope_number}
use Rattle.ccr_history.specs.Newest.{newest_used}
use Rattle.ccr_history.specs.Pairs.{has_pair}
use Rattle.ccr_history.specs.Changes.{pin_of}
use Rattle.ccr_history.specs.History.{HistoryData}
use Rattle.ccr_pipeline.specs.Inputs.{InputData, inputs, named_jobs}
use Rattle.ccr_pipeline.specs.JobData.{ResourceData}
pub use Rattle.ccr_pipeline.specs.JobData.{scope_of}
pub use Rattle.ccr_pipeline.specs.Named.{resource_of, job_of}
use Rattle.ccr_pipeline.specs.Pipelines.{PipelineData}
use Rattle.ccr_pipeline.specs.Tree.{WantedData, latest, every, pinned}
use Rattle.ccr_choice.specs.Problem.{InputValue, ProblemValue}
use Rattle.ccr_problem.specs.Numbering.{each_once, number_of}
use Rattle.ccr_problem.specs.Allowed.{PinsData, allowed_places}
use Rattle.ccr_problem.specs.Passed.{job_value}

-- ---- resources
-- the number that the history has for a resource's scope; 0 where it has none
abbrev pub history_number : PipelineData → HistoryData → Text → ℕ
history_number p h name = option_map_or (λ r. scope_number (scope_of r) h.tables) (resource_of name p.resources) 0

-- the resources of inputs, each once, in order of first use. No two have one scope, so that this numbers the inputs'
-- scopes too
abbrev pub used_resources : List InputData → List Text
used_resources is = each_once (map (λ i. i.resource) is)

-- ---- inputs
-- the pin that a get sets, if it sets one
abbrev pub get_pin : WantedData → Option TextMap
get_pin latest = None
get_pin every = None
get_pin (pinned pin) = Some pin

-- the pins of an input of this resource
abbrev pub pins_of : ResourceData → HistoryData → InputData → PinsData
pins_of r h i = record { by_resource = r.version; by_get = get_pin i.wanted; by_command = pin_of i.resource h.pins }

-- the place is disabled in the scope of this number
abbrev pub is_disabled_at : HistoryData → ℕ → ℕ → Bool
is_disabled_at h scope place = has_pair (scope, place) h.disabled

-- the allowed places of an input: of the versions in its resource's scope those that meet its pins and aren't disabled
abbrev pub input_places : PipelineData → HistoryData → InputData → List ℕ
input_places p h i =
    option_map_or
    (λ r. allowed_places (pins_of r h i) (is_disabled_at h (scope_number (scope_of r) h.tables))
    (versions_of (scope_of r) h.tables))
    (resource_of i.resource p.resources) []

-- the input takes every version, one after the other
abbrev pub takes_every : WantedData → Bool
takes_every latest = false
takes_every every = true
takes_every (pinned pin) = false

-- for an input of a job that takes every version, the place that the newest build of the job which used the input in its
-- resource's scope had, if there is such a build; for every other input none
abbrev pub input_after : PipelineData → HistoryData → Text → InputData → Option ℕ
input_after p h own i =
    if takes_every i.wanted then newest_used own i.name (history_number p h i.resource) h.builds else None

-- an input of a job, where these resources and jobs are numbered: its scope, its allowed places, the jobs that it names
-- in passed, each once, and the place after which others come first
abbrev pub input_value : PipelineData → HistoryData → Text → List Text → List Text → InputData → InputValue
input_value p h own resources jobs i = record {
  scope = number_of resources i.resource;
  places = input_places p h i;
  jobs = map (number_of jobs) (each_once i.passed);
  after = input_after p h own i;
}

-- ---- the problem
-- the problem of a job's inputs: the inputs in plan order, their scopes and the jobs that they name numbered in order of
-- first mention, and of each named job the successful builds, newest first, with what passed it in the inputs' scopes
abbrev pub problem_with : PipelineData → HistoryData → Text → List InputData → ProblemValue
problem_with p h own is =
    let resources : List Text = used_resources is in
    let jobs : List Text = named_jobs [] is in
    let scopes : List ℕ = map (history_number p h) resources in
    record { inputs = map (input_value p h own resources jobs) is; jobs = map (job_value h.builds scopes) jobs }

-- the pipeline has a job of this name, and the problem is that of its plan's inputs
abbrev pub IsProblemOf : PipelineData → HistoryData → Text → ProblemValue → Type 0
IsProblemOf p h job problem = IsSomeAnd (job_of job p.jobs) (λ j. problem ≡ problem_with p h j.name (inputs j.plan))
