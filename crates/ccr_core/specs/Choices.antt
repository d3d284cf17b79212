-- The choice of versions for a job's next build.
use Rattle.std.specs.Prelude.{ℕ, Bool, false, not, ◌&&◌, ◌||◌, List, [], ◌∷◌}
use Rattle.ccr_history.specs.Text.{Text}
use Rattle.ccr_history.specs.TextMap.{TextMap}
use Rattle.ccr_history.specs.Builds.{UsedData, BuildData, has_used}
use Rattle.ccr_history.specs.History.{HistoryData}
use Rattle.ccr_pipeline.specs.Inputs.{InputData}
use Rattle.ccr_pipeline.specs.Pipelines.{PipelineData}
use Rattle.ccr_choice.specs.Problem.{ProblemValue}
use Rattle.ccr_choice.specs.Preference.{order_of}
use Rattle.ccr_choice.specs.Optimal.{IsOptimal, HasNoChoice}
use Rattle.ccr_resolve.specs.NodeBound.{IsBelowNodeBound}
use Rattle.ccr_problem.specs.ProblemOf.{history_number, IsProblemOf}
use Rattle.ccr_core.specs.State.{State, pipeline_of}
use Rattle.ccr_core.specs.Seen.{version_at}

-- what comes of a search: places for the inputs, that there are none, or that the budget was too small
pub data Finding : Type 0 where
  best : (places : List ℕ) → Finding
  nothing : Finding
  over_budget : Finding

-- what may be found for a problem: the places of an optimal choice; nothing only where no choice satisfies it; over the
-- budget only where this is below the problem's node bound
abbrev pub IsFinding : ℕ → ProblemValue → Finding → Type 0
IsFinding budget problem (best places) = (builds : List ℕ) × IsOptimal (order_of problem) problem places builds
IsFinding budget problem nothing = HasNoChoice problem
IsFinding budget problem over_budget = IsBelowNodeBound (order_of problem) problem budget

-- this may be found for the job's next build
abbrev pub Finds : State → Text → Finding → Type 0
Finds s job f =
    (problem : ProblemValue) × IsProblemOf (pipeline_of s) s.history job problem × IsFinding s.budget problem f

-- ---- what a build uses
-- the places chosen for inputs, with their scopes
abbrev pub used_at : PipelineData → HistoryData → List InputData → List ℕ → List UsedData
used_at p h (i ∷ is) (n ∷ ns) =
    record { input = i.name; scope = history_number p h i.resource; place = n } ∷ used_at p h is ns
used_at p h is ns = []

-- the versions chosen for inputs
abbrev pub versions_at : PipelineData → HistoryData → List InputData → List ℕ → List TextMap
versions_at p h (i ∷ is) (n ∷ ns) = version_at p h i.resource n ∷ versions_at p h is ns
versions_at p h is ns = []
