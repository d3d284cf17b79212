-- How one build goes on or is made, said of its machine and of the history alone.
use Rattle.std.specs.Prelude.{◌≡◌, ◌⊎◌, ℕ, ◌+◌, ◌<◌, true, List, [], ◌∷◌, ◌++◌, length, Option, Some, IsSomeAnd}
use Rattle.ccr_history.specs.declared.builds.TheConstants.{MOST_BUILDS}
use Rattle.ccr_history.specs.Text.{Text}
use Rattle.ccr_history.specs.TextMap.{TextMap}
use Rattle.ccr_history.specs.Tables.{is_table_full}
use Rattle.ccr_history.specs.Builds.{count_of}
use Rattle.ccr_history.specs.Changes.{changed, AreUsed, AreMoved, IsRunning, AdmitsAll}
use Rattle.ccr_history.specs.Edits.{change_data, Accepts}
use Rattle.ccr_history.specs.declared.change.Edit.{Edit}
use Rattle.ccr_history.specs.History.{HistoryData}
use Rattle.ccr_pipeline.specs.Inputs.{inputs}
use Rattle.ccr_pipeline.specs.JobData.{JobData}
use Rattle.ccr_pipeline.specs.Limits.{input_names}
use Rattle.ccr_pipeline.specs.Pipelines.{PipelineData}
use Rattle.ccr_pipeline.specs.Tree.{Tree}
use Rattle.ccr_steps.specs.Asks.{AskData, AnswerData, Chosen, Exchange, exchange, chosen}
use Rattle.ccr_steps.specs.Gains.{GainsData, no_gains}
use Rattle.ccr_steps.specs.Means.{Means}
use Rattle.ccr_steps.specs.Progress.{IsAllowed, IsNext}
use Rattle.ccr_steps.specs.Runs.{RunData, StandsFor}
use Rattle.ccr_steps.specs.declared.outcome.Outcome.{Outcome}
use Rattle.ccr_problem.specs.ProblemOf.{resource_of, scope_of}
use Rattle.ccr_core.specs.declared.fault.CoreFault.{CoreFault}
use Rattle.ccr_core.specs.declared.fault.CoreFault.TheVariants.{TableFull, NoMemory}
use Rattle.ccr_core.specs.Builds.{Settles, begun, history_with}
use Rattle.ccr_core.specs.Choices.{used_at, versions_at}
use Rattle.ccr_core.specs.Kept.{IsAnswer}
use Rattle.ccr_core.specs.Seen.{pairs_of, pushed_by, report_by}
use Rattle.ccr_core.specs.State.{RunningData}

-- the edits are ones that the history takes, under its numbers, and lead to the other history
abbrev pub Changes : List Edit → HistoryData → HistoryData → Type 0
Changes edits h after = Accepts h edits × (changed (change_data edits) h ≡ after)

-- a report of these versions of a resource has no place
abbrev pub IsFull : PipelineData → HistoryData → Text → List TextMap → Type 0
IsFull p h resource vs =
    IsSomeAnd (resource_of resource p.resources) (λ r. is_table_full (scope_of r) vs h.tables ≡ true)

-- the build of this name, with this plan, these inputs and exchanges
abbrev pub named : Text → ℕ → Tree → Chosen → List Exchange → RunningData
named job number plan inputs es =
    record { job = job; number = number; plan = plan; inputs = inputs; exchanges = es }

-- ---- going on
-- the build stands for these exchanges, and waits for an answer
abbrev pub Waits : RunData → Tree → Chosen → List Exchange → Type 0
Waits r plan inputs es = StandsFor r plan inputs es × (IsAllowed inputs plan es → ⊥)

-- however the build ends with its next answer, once the history took what that pushed, what it moved fits the tables
abbrev pub EndsFit : PipelineData → HistoryData → Tree → Chosen → List Exchange → Type 0
EndsFit p h plan inputs es =
    (a : AskData) (x : AnswerData) (o : Outcome) (g : GainsData) → IsNext inputs plan es a → IsAnswer x
    → AdmitsAll h (report_by p a x) → Means inputs plan no_gains (es ++ exchange a x ∷ []) o g
    → AreMoved (changed (report_by p a x) h).tables (pairs_of p (changed (report_by p a x) h) g.moved)

-- THE CONDITION of an answer: the build runs in the history, it waits, and its end will fit
abbrev pub CanGoOn : PipelineData → HistoryData → RunData → Text → ℕ → Type 0
CanGoOn p h r job number =
    IsRunning job number h.builds
    × ((plan : Tree) × (inputs : Chosen) × (es : List Exchange) × Waits r plan inputs es × EndsFit p h plan inputs es)

-- the answer pushes a version that has no place
abbrev pub PushIsFull : PipelineData → HistoryData → Tree → Chosen → List Exchange → AnswerData → Type 0
PushIsFull p h plan inputs es x =
    (a : AskData) × (resource : Text) × (v : TextMap)
    × IsNext inputs plan es a × (pushed_by a x ≡ Some (resource, v)) × IsFull p h resource (v ∷ [])

-- THE BUILD GOES ON with an answer, and the history with it
abbrev pub GoesOn : PipelineData → HistoryData → RunData → Text → ℕ → AnswerData → Option Outcome → HistoryData → RunData → Type 0
GoesOn p h r job number x o after new =
    (plan : Tree) (inputs : Chosen) (es : List Exchange) → Waits r plan inputs es
    → (PushIsFull p h plan inputs es x → ⊥)
    × ((a : AskData) × IsNext inputs plan es a × StandsFor new plan inputs (es ++ exchange a x ∷ [])
    × Settles p (changed (report_by p a x) h) (named job number plan inputs (es ++ exchange a x ∷ [])) o after)

-- why an answer is refused: out of memory, or because what it pushes has no place
abbrev pub IsRefused : PipelineData → HistoryData → RunData → AnswerData → CoreFault → Type 0
IsRefused p h r x f =
    (plan : Tree) (inputs : Chosen) (es : List Exchange) → Waits r plan inputs es
    → (f ≡ NoMemory) ⊎ ((f ≡ TableFull) × PushIsFull p h plan inputs es x)

-- ---- making
-- THE CONDITION of a new build: there is room for it, its places are in the tables, one for each input, and if it ends
-- at once, what it moved fits the tables
pub record CanMake (p : PipelineData) (h : HistoryData) (j : JobData) (places : List ℕ) : Type 0 where
  pub room : length h.builds < MOST_BUILDS
  pub each : length places ≡ length (inputs j.plan)
  pub used : AreUsed h.tables (used_at p h (inputs j.plan) places)
  pub fits : (o : Outcome) (g : GainsData)
      → Means (begun p h j places).inputs j.plan no_gains [] o g
      → AreMoved h.tables (pairs_of p (history_with p h j places) g.moved)

-- A BUILD IS MADE: its machine has had no answer, and the history has it, and its end if it asks nothing
abbrev pub IsMade : PipelineData → HistoryData → JobData → List ℕ → ℕ → Option Outcome → HistoryData → RunData → Type 0
IsMade p h j places number o after run =
    (number ≡ count_of j.name h.builds + 1)
    × StandsFor run j.plan (chosen (input_names j.plan) (versions_at p h (inputs j.plan) places)) []
    × Settles p (history_with p h j places) (begun p h j places) o after
