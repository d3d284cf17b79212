-- What comes of a schedule or a trigger before a build is made.
use Rattle.std.specs.Prelude.{◌≡◌, ◌⊎◌, ℕ, Bool, true, false, not, ◌&&◌, List, map, Some}
use Rattle.std.specs.Option.{option_map_or}
use Rattle.std.specs.Str.{bytes_eq}
use Rattle.ccr_history.specs.Text.{Text}
use Rattle.ccr_history.specs.History.{HistoryData}
use Rattle.ccr_pipeline.specs.JobData.{JobData}
use Rattle.ccr_pipeline.specs.Pipelines.{PipelineData}
use Rattle.ccr_choice.specs.Problem.{ProblemValue}
use Rattle.ccr_problem.specs.ProblemOf.{job_of, IsProblemOf}
use Rattle.ccr_resolve.specs.declared.chosen.Chosen.{Chosen}
use Rattle.ccr_resolve.specs.declared.chosen.Chosen.TheVariants as chosen
use Rattle.ccr_core.specs.Busy.{share}
use Rattle.ccr_core.specs.declared.pick.Picked.{Picked}
use Rattle.ccr_core.specs.declared.pick.Picked.TheVariants.{Busy, NoneSatisfies, OverBudget, NotNew, Best}
use Rattle.ccr_core.specs.Choices.{Finding, best, nothing, over_budget, IsFinding, Finds}
use Rattle.ccr_core.specs.State.{RunningData, State}
use Rattle.ccr_core.specs.Steps.{IsBusy, IsIdle, has_news}

-- what was chosen, as a finding
abbrev pub finding_of : Chosen → Finding
finding_of (chosen.Best choice) = best choice.places
finding_of chosen.Nothing = nothing
finding_of (chosen.OverBudget n) = over_budget

-- this may be found for the next build of a job, in a pipeline with a history
abbrev pub IsFound : PipelineData → HistoryData → ℕ → Text → Finding → Type 0
IsFound p h budget job f = (problem : ProblemValue) × IsProblemOf p h job problem × IsFinding budget problem f

-- a build of this name is of another job, one that shares a serial group with this job
abbrev pub shuts_out : List JobData → JobData → Text × ℕ → Bool
shuts_out jobs j n = not (bytes_eq j.name n.0) && option_map_or (share j) (job_of n.0 jobs) false

-- what may come of it in a state: by command, whatever is new; else only where there is something new
abbrev pub Picks : State → JobData → Bool → Picked → Type 0
Picks s j by_command Busy = IsBusy s j
Picks s j by_command NoneSatisfies = IsIdle s j × Finds s j.name nothing
Picks s j by_command (OverBudget n) = IsIdle s j × Finds s j.name over_budget × (n ≡ s.budget)
Picks s j by_command NotNew =
    (by_command ≡ false) × IsIdle s j
    × ((places : List ℕ) × Finds s j.name (best places) × (has_news s j places ≡ false))
Picks s j by_command (Best places) =
    IsIdle s j × Finds s j.name (best places.items) × ((by_command ≡ true) ⊎ (has_news s j places.items ≡ true))

-- a build's job and number
abbrev pub name_of : RunningData → Text × ℕ
name_of b = (b.job, b.number)

-- it may come of it in each state with this pipeline, history and budget, in which builds of these names run
abbrev pub IsPicked : PipelineData → HistoryData → ℕ → List (Text × ℕ) → JobData → Bool → Picked → Type 0
IsPicked p h budget names j by_command pick =
    (s : State) → s.pipeline ≡ Some p → s.history ≡ h → s.budget ≡ budget
    → map name_of s.running ≡ names → Picks s j by_command pick
