-- What a core holds, and which states it stands for.
use Rattle.std.specs.Prelude.{◌≡◌, ℕ, ◌+◌, ◌==◌, ◌≤◌, ◌&&◌, List, [], ◌∷◌, slice_get, Option, Some, None, option_and_then, string_bytes, if◌then◌else◌, ⊤}
use Rattle.std.specs.Prelude.{String, IsTrue}
use Rattle.std.specs.List.{AllByRecursion}
use Rattle.std.specs.Option.{IfSome}
use Rattle.std.specs.Str.{bytes_eq}
use Rattle.std.specs.declared.alloc.Global.{Global}
use Rattle.ccr_history.specs.Text.{Text}
use Rattle.ccr_history.specs.Changes.{EditData}
use Rattle.ccr_history.specs.History.{HistoryData}
use Rattle.ccr_pipeline.specs.Links.{resource_names}
use Rattle.ccr_pipeline.specs.Names.{has_name}
use Rattle.ccr_pipeline.specs.Pipelines.{PipelineData}
use Rattle.ccr_pipeline.specs.Tree.{Tree}
use Rattle.ccr_proof.specs.declared.proof.TheConstants.{MOST_NODES}
use Rattle.ccr_steps.specs.Asks.{AskData, ask_data, ask_resource}
use Rattle.ccr_steps.specs.Moments.{step_at}
use Rattle.ccr_steps.specs.Progress.{IsAllowed, IsNext}
use Rattle.ccr_steps.specs.Runs.{RunData, StandsFor, HasTurn}
use Rattle.ccr_steps.specs.declared.ask.Ask.{Ask}
use Rattle.ccr_core.specs.Addressed.{AnswerTo, addressed}
use Rattle.ccr_core.specs.Edits.{AreEdits}
use Rattle.ccr_core.specs.Events.{EventData}
use Rattle.ccr_core.specs.Kept.{IsEvent, IsStart}
use Rattle.ccr_core.specs.Replies.{Replied}
use Rattle.ccr_core.specs.State.{RunningData, State, resources_of, running_at}
use Rattle.ccr_core.specs.Steps.{Step, Run}

-- a build's job and number
abbrev pub name_data : String Global × ℕ → Text × ℕ
name_data n = (string_bytes n.0, n.1)

-- a history, a pipeline if one was set, how many nodes a search may take, and the builds that run, in order of making:
-- their names, and the machines that they are
pub record CoreData : Type 0 where
  pub history : HistoryData
  pub pipeline : Option PipelineData
  pub budget : ℕ
  pub names : List (Text × ℕ)
  pub runs : List RunData

-- each machine stands for one of the builds, in order: it has the build's name, has come as far, and waits for an
-- answer
abbrev pub AreRuns : List (Text × ℕ) → List RunData → List RunningData → Type 0
AreRuns [] [] [] = ⊤
AreRuns (n ∷ ns) (r ∷ rs) (b ∷ bs) =
    (n ≡ (b.job, b.number)) × StandsFor r b.plan b.inputs b.exchanges × (IsAllowed b.inputs b.plan b.exchanges → ⊥)
    × AreRuns ns rs bs
AreRuns ns rs bs = ⊥

-- THE LINK: a core stands for a state
abbrev pub Stands : CoreData → State → Type 0
Stands c s =
    (c.history ≡ s.history) × (c.pipeline ≡ s.pipeline) × (c.budget ≡ s.budget) × AreRuns c.names c.runs s.running

-- what a core stands for is reached: events that keep what events keep lead there from a start
abbrev pub IsReached : CoreData → Type 0
IsReached c =
    (start : State) × (es : List EventData) × (rs : List Replied) × (s : State)
    × IsStart start × AllByRecursion IsEvent es × Run start es rs s × Stands c s

-- what every core keeps: its budget is one that a search takes, and what it stands for is reached
pub record IsCore (c : CoreData) : Type 0 where
  pub least : 1 ≤ c.budget
  pub most : c.budget ≤ MOST_NODES
  pub reached : IsReached c

-- ---- what the machine promises
-- A STEP leads from each state that the core stood for to one that it stands for
abbrev pub TakesStep : CoreData → CoreData → EventData → Replied → Type 0
TakesStep old new e r = (s : State) → Stands old s → (after : State) × Step s e r after × Stands new after

-- A STEP by whatever event says this to a build
abbrev pub TakesSaidStep : CoreData → CoreData → AnswerTo → Replied → Type 0
TakesSaidStep old new a r = (e : EventData) → addressed e ≡ Some a → TakesStep old new e r

-- THE CHANGE of a step holds its edits, in each state that the core stood for: these and no others
abbrev pub HasEdits : CoreData → EventData → Replied → List EditData → Type 0
HasEdits old e r edits = (s : State) → Stands old s → AreEdits s e r edits

-- THE CHANGE of a step by whatever event says this to a build
abbrev pub HasSaidEdits : CoreData → AnswerTo → Replied → List EditData → Type 0
HasSaidEdits old a r edits = (e : EventData) → addressed e ≡ Some a → HasEdits old e r edits

-- what a running build wants: nothing exactly where it doesn't run; else the ask that follows its exchanges, at its
-- turn
abbrev pub IsAsked : Option RunningData → Option (ℕ × Ask) → Type 0
IsAsked None None = ⊤
IsAsked (Some b) (Some (turn, ask)) = HasTurn b.exchanges turn × IsNext b.inputs b.plan b.exchanges (ask_data ask)
IsAsked b w = ⊥

-- what the job's build of this number wants, in each state that the core stands for
abbrev pub Wants : CoreData → Text → ℕ → Option (ℕ × Ask) → Type 0
Wants c job number w = (s : State) → Stands c s → IsAsked (running_at job number s.running) w

-- the resource that an ask names is one of the pipeline's; a task's asks name none
abbrev pub NamesResource : State → AskData → Type 0
NamesResource s a = IfSome (ask_resource a) (λ r. IsTrue (has_name (resource_names (resources_of s)) r))

-- where the job's build of this number stands among the names; past the end if it doesn't run
abbrev pub name_index : Text → ℕ → List (Text × ℕ) → ℕ
name_index job number [] = 0
name_index job number (n ∷ ns) = if bytes_eq job n.0 && number == n.1 then 0 else 1 + name_index job number ns

-- the step of its plan at which the job's build of this number waits; none where it doesn't run
abbrev pub step_in : CoreData → Text → ℕ → Option Tree
step_in c job number = option_and_then (λ r. step_at r.at r.plan) (slice_get c.runs (name_index job number c.names))
