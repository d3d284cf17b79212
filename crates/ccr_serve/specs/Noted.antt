-- What a turn tells on standard error, and what a restart does.
use Rattle.std.specs.Prelude.{◌≡◌, ◌⊎◌, ℕ, List, [], ◌∷◌, ◌++◌, Bool, true, false, Option, Some, Result, Ok, Err, string_bytes}
use Rattle.ccr_history.specs.Text.{Text}
use Rattle.ccr_history.specs.Changes.{EditData, ended}
use Rattle.ccr_pipeline.specs.Tree.{Tree}
use Rattle.ccr_process.specs.Runs.{Pair}
use Rattle.ccr_steps.specs.Asks.{ask_data}
use Rattle.ccr_steps.specs.declared.ask.Ask.{Ask}
use Rattle.ccr_task.specs.Calls.{CallData}
use Rattle.ccr_task.specs.Faulty.{SaidData}
use Rattle.ccr_task.specs.Notes.{step_head, ask_head, note_text, cut_text}
use Rattle.ccr_task.specs.Places.{PlacesData, abort_folder}
use Rattle.ccr_task.specs.declared.said.StepFault.{StepFault}
use Rattle.ccr_task.specs.declared.said.StepFault.TheVariants.{TableFull, Aborted}
use Rattle.ccr_core.specs.declared.fault.CoreFault.TheVariants as core_fault
use Rattle.ccr_core.specs.declared.reply.Reply.{Reply}
use Rattle.ccr_core.specs.Events.{EventData, answer}
use Rattle.ccr_core.specs.Holding.{CoreData, TakesStep, Wants, step_in}
use Rattle.ccr_lines.specs.Noted.{IsNoted}
use Rattle.ccr_serve.specs.Aborts.{AbortIsAsked}
use Rattle.ccr_serve.specs.Due.{IsDue, AnswersWant}
use Rattle.ccr_serve.specs.declared.due.Due.{Due}
use Rattle.ccr_serve.specs.declared.fault.ServeFault.{ServeFault}

-- ---- which step
-- this says which step of the job's build of this number asks, and for which file
pub record IsHead (c : CoreData) (job : Text) (number : ℕ) (head : Text) : Type 0 where
  pub turn : ℕ
  pub ask : Ask
  pub wants : Wants c job number (Some (turn, ask))
  pub step : Tree
  pub at : step_in c job number ≡ Some step
  pub text : head ≡ ask_head job number step (ask_data ask)

-- this says which step of the job's build of this number waits
pub record IsStepHead (c : CoreData) (job : Text) (number : ℕ) (head : Text) : Type 0 where
  pub step : Tree
  pub at : step_in c job number ≡ Some step
  pub text : head ≡ step_head job number step

-- ---- what is told
-- what was wrong, if anything was, is told of what such a head says, after what was told before; out of memory nothing is
abbrev pub NotesOf : (Text → Type 0) → Option StepFault → List Text → List Text → Type 0
NotesOf IsIt fault old new =
    (new ≡ old)
    ⊎ ((head : Text) × (f : StepFault) × IsIt head × (fault ≡ Some f) × (new ≡ old ++ note_text head f ∷ []))

-- what was wrong with the answer that an event is: its own fault, where the core took it; that there was no room for it, where
-- the core refused it so
abbrev pub IsFaultOf : CoreData → EventData → Option StepFault → Option StepFault → Type 0
IsFaultOf c e own told =
    ((told ≡ own) × (reply : Reply) × (after : CoreData) × TakesStep c after e (Ok reply))
    ⊎ ((told ≡ Some TableFull) × TakesStep c c e (Err core_fault.TableFull))

-- what is told of an answer to what the job's build of this number wants, with the runner's pairs and the shelf's calls before
-- and after it
pub record NotesAnswer (places : PlacesData) (c : CoreData) (job : Text) (number : ℕ) (pairs now : List Pair)
    (before after : List CallData) (old new : List Text) : Type 0 where
  pub turn : ℕ
  pub x : SaidData
  pub answered : AnswersWant places c job number turn x pairs now before after
  pub fault : Option StepFault
  pub is_fault : IsFaultOf c (answer job number turn x.answer) x.fault fault
  pub notes : NotesOf (IsHead c job number) fault old new

-- what is told of the job's build of this number that is served: the step that waits was aborted, or its ask was answered
abbrev pub NotesBuild : PlacesData → CoreData → Text → ℕ → List Pair → List Pair → List CallData → List Text → List Text
    → Type 0
NotesBuild places c job number pairs now before old new =
    (looked : List CallData)
    × ((AbortIsAsked (abort_folder places job number) true before looked
    × NotesOf (IsStepHead c job number) (Some Aborted) old new)
    ⊎ (AbortIsAsked (abort_folder places job number) false before looked
    × (after : List CallData) × NotesAnswer places c job number pairs now looked after old new))

-- WHAT A TURN TELLS, after the build of this rank, with the runner's pairs before and after it and the shelf's calls before it:
-- what is told of the build whose turn it is; nothing where no build runs, and nothing where the turn ends early
abbrev pub NotesTurn : Result Bool ServeFault → PlacesData → CoreData → ℕ → List Pair → List Pair → List CallData
    → List Text → List Text → Type 0
NotesTurn (Ok true) places c last pairs now before old new =
    (due : Due) × IsDue c last (Some due)
    × NotesBuild places c (string_bytes due.job) due.number pairs now before old new
NotesTurn (Ok false) places c last pairs now before old new = new ≡ old
NotesTurn (Err fault) places c last pairs now before old new = new ≡ old

-- ---- restarts
-- of an edit that ends a build it is told that a restart has cut the build short; of another edit nothing
abbrev pub NotesEdit : EditData → List Text → List Text → Type 0
NotesEdit (ended job number status moved) old new = IsNoted (cut_text job number) old new
NotesEdit e old new = new ≡ old

-- WHAT A RESTART TELLS that makes these edits: what is told of each, in order
abbrev pub NotesCut : List EditData → List Text → List Text → Type 0
NotesCut [] old new = new ≡ old
NotesCut (e ∷ es) old new = (mid : List Text) × NotesEdit e old mid × NotesCut es mid new
