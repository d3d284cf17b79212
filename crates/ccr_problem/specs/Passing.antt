-- What is brought to one index, without where it lies in memory.
use Rattle.std.specs.Prelude.{◌≡◌, ℕ, ◌+◌, ◌<◌, List, [], ◌∷◌, ◌++◌, length, map, true, Option, Some, None, option_map, slice_set, slice_index_or, if◌then◌else◌, ⊤}
use Rattle.std.specs.List.{AllByRecursion}
use Rattle.std.specs.Option.{option_or}
use Rattle.std.specs.Str.{bytes_eq}
use Rattle.ccr_history.specs.Text.{Text}
use Rattle.ccr_history.specs.Builds.{UsedData}
use Rattle.ccr_history.specs.History.{HistoryData}
use Rattle.ccr_pipeline.specs.Inputs.{inputs}
use Rattle.ccr_pipeline.specs.JobData.{JobData}
use Rattle.ccr_pipeline.specs.Pipelines.{PipelineData}
use Rattle.ccr_choice.specs.Problem.{InputValue, BuildValue, ProblemValue, IsProblem, is_after, input_at}
use Rattle.ccr_index.specs.Index.{IndexValue}
use Rattle.ccr_problem.specs.declared.coming.Passed.{Passed}
use Rattle.ccr_problem.specs.Follows.{with_passed, with_places, with_afters, place_taken}

-- a build's number, with what passed with it
abbrev pub passed_value : ℕ → Option Passed → Option (ℕ × BuildValue)
passed_value number o = option_map (λ x. (x.job, record { number = number; pairs = x.pairs.items })) o

-- the problem keeps its rules with what is brought to it
abbrev pub CanTake : Option (ℕ × BuildValue) → ProblemValue → Type 0
CanTake None q = ⊤
CanTake (Some (j, b)) q = (j < length q.jobs) × IsProblem (with_passed q (Some (j, b)))

-- each index's problem keeps its rules with what is brought to it
abbrev pub CanAllTake : List (Option (ℕ × BuildValue)) → List IndexValue → Type 0
CanAllTake bs xs =
    (k : ℕ) (d : IndexValue) → k < length xs → CanTake (slice_index_or bs k None) (slice_index_or xs k d).problem

-- ---- places
-- how many places come to the inputs
abbrev pub how_many : List (List ℕ) → ℕ
how_many [] = 0
how_many (ns ∷ more) = length ns + how_many more

-- the input with further places behind its own
abbrev pub grown : InputValue → List ℕ → InputValue
grown x ns = record { scope = x.scope; places = x.places ++ ns; jobs = x.jobs; after = x.after }

-- the problem, where one input has further places
abbrev pub with_more : ProblemValue → ℕ → List ℕ → ProblemValue
with_more q i ns = record { inputs = slice_set q.inputs i (grown (input_at q i) ns); jobs = q.jobs }

-- the problem, where each input has further places
abbrev pub with_news : ProblemValue → List (List ℕ) → ProblemValue
with_news q more = record { inputs = with_places q.inputs more; jobs = q.jobs }

-- ---- places after which others come first
-- what a build of the job of this name brings to a job's inputs: to those of another job nothing
abbrev pub taken_by : PipelineData → HistoryData → Text → List UsedData → JobData → List (Option ℕ)
taken_by p h name used j = if bytes_eq j.name name then map (place_taken p h used) (inputs j.plan) else []

-- the input with such a place in place of the one that it had, if it is given one
abbrev pub after_with : InputValue → Option ℕ → InputValue
after_with x u = record { scope = x.scope; places = x.places; jobs = x.jobs; after = option_or u x.after }

-- the problem, where one comes to an input
abbrev pub with_one : ProblemValue → ℕ → Option ℕ → ProblemValue
with_one q i u = record { inputs = slice_set q.inputs i (after_with (input_at q i) u); jobs = q.jobs }

-- the problem, where these come to its inputs
abbrev pub with_taken : ProblemValue → List (Option ℕ) → ProblemValue
with_taken q us = record { inputs = with_afters q.inputs us; jobs = q.jobs }

-- each is a place that an input may keep
abbrev pub AreAfters : List (Option ℕ) → Type 0
AreAfters us = AllByRecursion (λ u. is_after u ≡ true) us
