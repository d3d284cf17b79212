-- How the problem of inputs follows a history, change by change.
use Rattle.std.specs.Prelude.{◌≡◌, ℕ, ◌+◌, ◌&&◌, List, [], ◌∷◌, ◌++◌, length, map, slice_set, nat_lt, Bool, false, Option, Some, None, AllPairs, if◌then◌else◌}
use Rattle.std.specs.List.{list_any}
use Rattle.std.specs.Option.{option_map_or, option_or}
use Rattle.std.specs.Str.{bytes_eq}
use Rattle.ccr_history.specs.declared.build.Status.{Status}
use Rattle.ccr_history.specs.declared.build.Status.TheVariants.{Succeeded}
use Rattle.ccr_history.specs.Text.{Text}
use Rattle.ccr_history.specs.TextMap.{TextMap}
use Rattle.ccr_history.specs.Scopes.{ScopeData, is_scope}
use Rattle.ccr_history.specs.Tables.{versions_of}
use Rattle.ccr_history.specs.Builds.{UsedData, BuildData, is_of, is_succeeded, by_place}
use Rattle.ccr_history.specs.Newest.{last_given, place_if_at}
use Rattle.ccr_history.specs.Changes.{build, ended, versions, edited, IsRunning}
use Rattle.ccr_history.specs.Edits.{AreNew}
use Rattle.ccr_history.specs.History.{HistoryData, IsHistory}
use Rattle.ccr_pipeline.specs.Inputs.{InputData, named_jobs}
use Rattle.ccr_pipeline.specs.Names.{has_name}
use Rattle.ccr_pipeline.specs.Pipelines.{PipelineData}
use Rattle.ccr_choice.specs.Problem.{InputValue, BuildValue, ProblemValue, builds_at}
use Rattle.ccr_problem.specs.Allowed.{places_from}
use Rattle.ccr_problem.specs.Numbering.{number_of}
use Rattle.ccr_problem.specs.Passed.{cut_to}
use Rattle.ccr_problem.specs.ProblemOf.{resource_of, scope_of, history_number, used_resources, pins_of, takes_every, problem_with}

-- ---- builds
-- the place that a build used for an input of its job in its resource's scope, where the input takes every version
abbrev pub place_taken : PipelineData → HistoryData → List UsedData → InputData → Option ℕ
place_taken p h used i =
    if takes_every i.wanted then last_given (place_if_at i.name (history_number p h i.resource)) used else None

-- the place that a build which is made brings to an input of a job, where it is a build of this job
abbrev pub place_made : PipelineData → HistoryData → (job : Text) → List UsedData → (own : Text) → InputData → Option ℕ
place_made p h job used own i = if bytes_eq own job then place_taken p h used i else None

-- the inputs, each with such a place, where there is one, in place of the one that it had
abbrev pub with_afters : List InputValue → List (Option ℕ) → List InputValue
with_afters [] us = []
with_afters (x ∷ xs) [] = x ∷ xs
with_afters (x ∷ xs) (u ∷ us) =
    record { scope = x.scope; places = x.places; jobs = x.jobs; after = option_or u x.after } ∷ with_afters xs us

-- a build that is made, which uses each input once, brings its places to the inputs of its own job that take every
-- version, and nothing else changes, since it hasn't succeeded
abbrev pub MadeBrings : Type 0
MadeBrings =
    (p : PipelineData) (h : HistoryData) (own : Text) (is : List InputData) (job : Text) (used : List UsedData)
    → AllPairs (λ u v. bytes_eq u.input v.input ≡ false) used
    → problem_with p (edited (build job used) h) own is
    ≡ record {
      inputs = with_afters (problem_with p h own is).inputs (map (place_made p h job used own) is);
      jobs = (problem_with p h own is).jobs;
    }

-- a running build that ends without success leaves the problem
abbrev pub UnsuccessfulEndLeaves : Type 0
UnsuccessfulEndLeaves =
    (p : PipelineData) (h : HistoryData) (own : Text) (is : List InputData) (job : Text) (number : ℕ)
    (status : Status) (moved : List (ℕ × ℕ))
    → IsHistory h → IsRunning job number h.builds → is_succeeded status ≡ false
    → problem_with p (edited (ended job number status moved) h) own is ≡ problem_with p h own is

-- a build of the job with a greater number has succeeded
abbrev pub has_newer : Text → ℕ → List BuildData → Bool
has_newer job number builds = list_any (λ b. is_of job b && (is_succeeded b.status && nat_lt number b.number)) builds

-- what a build's success brings to the problem of inputs, where they name its job: the job's number among those named,
-- and the build with what it moved in the inputs' scopes
abbrev pub passed_to : PipelineData → HistoryData → List InputData → Text → ℕ → List (ℕ × ℕ) → Option (ℕ × BuildValue)
passed_to p h is job number moved =
    if has_name (named_jobs [] is) job
    then Some (
      number_of (named_jobs [] is) job,
      record { number = number; pairs = cut_to (map (history_number p h) (used_resources is)) (by_place moved) },
    )
    else None

-- the problem with this build, the newest of the job of this number, if there is one
abbrev pub with_passed : ProblemValue → Option (ℕ × BuildValue) → ProblemValue
with_passed q None = q
with_passed q (Some (j, b)) = record { inputs = q.inputs; jobs = slice_set q.jobs j (b ∷ builds_at q j) }

-- a running build that succeeds comes to the problem, where no newer build of its job has succeeded
abbrev pub SuccessAdds : Type 0
SuccessAdds =
    (p : PipelineData) (h : HistoryData) (own : Text) (is : List InputData) (job : Text) (number : ℕ)
    (moved : List (ℕ × ℕ))
    → IsHistory h → IsRunning job number h.builds → has_newer job number h.builds ≡ false
    → problem_with p (edited (ended job number Succeeded moved) h) own is
    ≡ with_passed (problem_with p h own is) (passed_to p h is job number moved)

-- ---- versions
-- the places that come to an input with versions of a scope, the first of which has this place: of those that meet its
-- pins, where the scope is its resource's
abbrev pub new_places : PipelineData → HistoryData → ScopeData → ℕ → List TextMap → InputData → List ℕ
new_places p h scope first vs i =
    option_map_or (λ r. if is_scope scope (scope_of r) then places_from first (pins_of r h i) vs else [])
    (resource_of i.resource p.resources) []

-- the inputs, each with further places behind its own
abbrev pub with_places : List InputValue → List (List ℕ) → List InputValue
with_places [] more = []
with_places (x ∷ xs) [] = x ∷ xs
with_places (x ∷ xs) (ns ∷ more) =
    record { scope = x.scope; places = x.places ++ ns; jobs = x.jobs; after = x.after } ∷ with_places xs more

-- versions that are new come to the inputs of their scope whose pins they meet, and nothing else changes: none of them
-- is disabled yet
abbrev pub ReportAdds : Type 0
ReportAdds =
    (p : PipelineData) (h : HistoryData) (own : Text) (is : List InputData) (scope : ScopeData) (vs : List TextMap)
    → IsHistory h → AreNew (versions_of scope h.tables) vs
    → problem_with p (edited (versions scope vs) h) own is
    ≡ record {
      inputs = with_places (problem_with p h own is).inputs
          (map (new_places p h scope (length (versions_of scope h.tables) + 1) vs) is);
      jobs = (problem_with p h own is).jobs;
    }
