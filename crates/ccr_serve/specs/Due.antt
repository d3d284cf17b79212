-- The build whose turn it is, and what came of its turn.
use Rattle.std.specs.Prelude.{◌≡◌, ◌⊎◌, ℕ, List, [], find, nat_lt, slice_get, Option, Some, None, Ok, Err, string_bytes}
use Rattle.std.specs.Option.{option_or}
use Rattle.ccr_history.specs.Text.{Text}
use Rattle.ccr_history.specs.History.{HistoryData}
use Rattle.ccr_pipeline.specs.Tree.{Tree}
use Rattle.ccr_process.specs.Runs.{Pair}
use Rattle.ccr_steps.specs.Asks.{ask_data, AnswerData, errored}
use Rattle.ccr_steps.specs.declared.ask.Ask.{Ask}
use Rattle.ccr_task.specs.Faulty.{SaidData}
use Rattle.ccr_task.specs.Places.{PlacesData}
use Rattle.ccr_task.specs.Starting.{step_label}
use Rattle.ccr_task.specs.Calls.{CallData}
use Rattle.ccr_core.specs.declared.fault.CoreFault.TheVariants.{TableFull}
use Rattle.ccr_core.specs.declared.reply.Reply.{Reply}
use Rattle.ccr_core.specs.Events.{answer}
use Rattle.ccr_core.specs.Holding.{CoreData, Stands, Wants, step_in}
use Rattle.ccr_core.specs.Kept.{IsEvent}
use Rattle.ccr_core.specs.State.{RunningData, State, running_at}
use Rattle.ccr_core.specs.Steps.{Step}
use Rattle.ccr_history.specs.Counts.{RoseBy}
use Rattle.ccr_serve.specs.Asked.{Answers, BeginsAnswer}
use Rattle.ccr_serve.specs.Pairs.{Adds}
use Rattle.ccr_serve.specs.Turns.{rank_of, rank_in, next_after}
use Rattle.ccr_serve.specs.Views.{View, resources_held, IsReady, IsElse}
use Rattle.ccr_serve.specs.declared.due.Due.{Due}

-- ---- whose turn it is
-- of builds in order of making, by their jobs and numbers: the first made after the one of this rank, or else the first
-- of all
abbrev pub next_name : HistoryData → ℕ → List (Text × ℕ) → Option (Text × ℕ)
next_name h last names = option_or (find (λ n. nat_lt last (rank_of n.0 n.1 h.builds)) names) (slice_get names 0)

-- in a state it is the turn of the job's build of this number, which has this rank
pub record IsTurnOf (s : State) (last : ℕ) (job : Text) (number rank : ℕ) : Type 0 where
  pub build : RunningData
  pub next : next_after (rank_in s.history) last s.running ≡ Some build
  pub there : running_at job number s.running ≡ Some build
  pub ranked : rank ≡ rank_in s.history build

-- whose turn it is after the build of this rank, in each state that the core stands for; nobody's where no build runs
abbrev pub IsDue : CoreData → ℕ → Option Due → Type 0
IsDue c last None = c.names ≡ []
IsDue c last (Some d) = (s : State) → Stands c s → IsTurnOf s last (string_bytes d.job) d.number d.rank

-- ---- what came of it
-- what the job's build of this number wants at this turn, at the step at which it waits, was answered so, with the runner's
-- pairs and the shelf's calls before and after
pub record AnswersWant (places : PlacesData) (c : CoreData) (job : Text) (number turn : ℕ) (x : SaidData)
    (old new : List Pair) (before after : List CallData) : Type 0 where
  pub ask : Ask
  pub wants : Wants c job number (Some (turn, ask))
  pub step : Tree
  pub at : step_in c job number ≡ Some step
  pub pair : Option Pair
  pub adds : Adds old pair new
  pub answers : Answers places (resources_held c) job number (step_label step) (ask_data ask) before after pair x

-- the answer to what the job's build of this number wants was begun, with the runner's pairs and the shelf's calls before
-- and after
pub record BeginsWant (places : PlacesData) (c : CoreData) (job : Text) (number : ℕ) (old new : List Pair)
    (before after : List CallData) : Type 0 where
  pub turn : ℕ
  pub ask : Ask
  pub wants : Wants c job number (Some (turn, ask))
  pub step : Tree
  pub at : step_in c job number ≡ Some step
  pub lost : Option Pair
  pub adds : Adds old lost new
  pub begins : BeginsAnswer places (resources_held c) job number (step_label step) (ask_data ask) before after lost

-- from a state an answer was given to the job's build of this number, or errored in its place, where there is no room
-- for it; what was given keeps what every event keeps
pub record GivesFrom (job : Text) (number turn : ℕ) (x : AnswerData) (reply : Reply) (s : State) (new : CoreData)
    : Type 0 where
  pub given : AnswerData
  pub is_given : (given ≡ x) ⊎ (Step s (answer job number turn x) (Err TableFull) s × (given ≡ errored))
  pub after : State
  pub step : Step s (answer job number turn given) (Ok reply) after
  pub kept : IsEvent (answer job number turn given)
  pub stands : Stands new after

-- an answer was given to the job's build of this number, or errored in its place, and one commit stored what it changed
pub record Gives (job : Text) (number turn : ℕ) (x : AnswerData) (reply : Reply) (old new : View) : Type 0 where
  pub takes : (s : State) → Stands old.core s → GivesFrom job number turn x reply s new.core
  pub ready : IsReady new
  pub commits : RoseBy old.tally.commits 1 new.tally.commits
  pub rest : IsElse old new
