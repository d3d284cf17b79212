-- What a server does of each item.
use Rattle.std.specs.Prelude.{◌≡◌, ◌≢◌, ◌⊎◌, ℕ, List, Bool, true, false, Option, Some, None, Ok, Err, ⊤}
use Rattle.ccr_history.specs.Text.{Text}
use Rattle.ccr_pipeline.specs.JobData.{ResourceData}
use Rattle.ccr_pipeline.specs.Tree.{Tree}
use Rattle.ccr_history.specs.TextMap.{TextMap}
use Rattle.ccr_steps.specs.Asks.{AskData, AnswerData, Exchange, errored}
use Rattle.ccr_steps.specs.Progress.{IsNext}
use Rattle.ccr_steps.specs.Moments.{step_at}
use Rattle.ccr_steps.specs.Runs.{RunData, HasTurn, StandsFor}
use Rattle.ccr_process.specs.Runs.{Pair}
use Rattle.ccr_task.specs.Calls.{CallData}
use Rattle.ccr_task.specs.Faulty.{SaidData}
use Rattle.ccr_task.specs.Places.{PlacesData, abort_folder}
use Rattle.ccr_task.specs.Starting.{step_label}
use Rattle.ccr_problem.specs.ProblemOf.{resource_of}
use Rattle.ccr_core.specs.declared.fault.CoreFault.TheVariants.{TableFull, NoMemory}
use Rattle.ccr_core.specs.declared.reply.Reply.{Reply}
use Rattle.ccr_core.specs.Events.{EventData, checked, answer, abort}
use Rattle.ccr_core.specs.Events as event
use Rattle.ccr_core.specs.Kept.{IsEvent}
use Rattle.ccr_core.specs.Replies.{Replied}
use Rattle.ccr_core.specs.State.{RunningData, State, pipeline_of, resources_of}
use Rattle.ccr_core.specs.Steps.{Step}
use Rattle.ccr_serve.specs.Aborts.{AbortIsAsked, Clears, ForgetsAfter}
use Rattle.ccr_serve.specs.Asked.{Answers, BeginsAnswer}
use Rattle.ccr_serve.specs.Found.{FoundData, found, newest, Finds, BeginsFind}
use Rattle.ccr_serve.specs.Found as what_is
use Rattle.ccr_core.specs.Commands.{ShownData}
use Rattle.ccr_lines.specs.Shown.{IsShown}
use Rattle.ccr_serve.specs.Items.{Loss, World, unmade, Item, check, schedule, turn, tell, show, Done, nothing, Serve, Part, Items}
use Rattle.ccr_lines.specs.Lines.{lines_of, refused_line, cause_words}
use Rattle.ccr_serve.specs.Turns.{rank_in, next_after}

-- ---- events
-- the event was made, which keeps what every event keeps, with its reply and its lines; out of memory, there is none
pub record Makes (e : EventData) (old : State) (did : Done) (new : State) : Type 0 where
  pub reply : Replied
  pub step : Step old e reply new
  pub kept : IsEvent e
  pub found_memory : reply ≢ Err NoMemory
  pub event : did.event ≡ Some (e, reply)
  pub lines : did.lines ≡ lines_of e reply new.history

-- an event is made; no program is started, and the shelf is called for what asks to abort a build that has ended in the event
-- that made it, and for nothing else
pub record Tells (places : PlacesData) (e : EventData) (old : World) (did : Done) (new : World) : Type 0 where
  pub makes : Makes e old.core did new.core
  pub pair : did.pair ≡ None
  pub last : new.last ≡ old.last
  pub calls : ForgetsAfter places e makes.reply new.core.history old.calls new.calls
  pub lost : new.lost ≡ old.lost

-- the core took the event; a command whose event it refuses is refused itself
abbrev pub IsTaken : EventData → Done → Type 0
IsTaken e did = (reply : Reply) × (did.event ≡ Some (e, Ok reply))

-- ---- checks
-- versions that were found are an event; where nothing was found, a line says why
abbrev pub Reports : Text → FoundData → State → Done → State → Type 0
Reports resource (found versions) old did new = Makes (checked resource versions) old did new
Reports resource (what_is.nothing cause) old did new =
    (did.event ≡ None) × (did.lines ≡ refused_line resource (cause_words cause)) × (new ≡ old)

-- a resource is checked, and is told its newest version
pub record Checks (places : PlacesData) (resource : Text) (old : World) (did : Done) (new : World) : Type 0 where
  pub one : ResourceData
  pub named : resource_of resource (resources_of old.core) ≡ Some one
  pub what : FoundData
  pub finds : Finds places one (newest one old.core.history) old.calls new.calls did.pair what
  pub reports : Reports resource what old.core did new.core
  pub last : new.last ≡ old.last
  pub lost : new.lost ≡ old.lost

-- the event that a check didn't make is of the versions that it found; it may not have got so far
abbrev pub MayCheck : PlacesData → Text → ResourceData → World → World → Option EventData → Type 0
MayCheck places resource one old new None = ⊤
MayCheck places resource one old new (Some e) =
    (versions : List TextMap)
    × Finds places one (newest one old.core.history) old.calls new.calls new.lost.pair (found versions)
    × (e ≡ checked resource versions)

-- a check of a resource was begun: its event isn't made
pub record BeginsCheck (places : PlacesData) (resource : Text) (old new : World) : Type 0 where
  pub one : ResourceData
  pub named : resource_of resource (resources_of old.core) ≡ Some one
  pub begins : BeginsFind places one (newest one old.core.history) old.calls new.calls new.lost.pair
  pub may : MayCheck places resource one old new new.lost.event
  pub core : new.core ≡ old.core
  pub last : new.last ≡ old.last

-- ---- turns
-- the answer that is given: errored in place of one that pushes a version for which there is no room
abbrev pub IsGiven : State → RunningData → ℕ → AnswerData → AnswerData → Type 0
IsGiven s b t x given =
    (given ≡ x) ⊎ (Step s (answer b.job b.number t x) (Err TableFull) s × (given ≡ errored))

-- a build waits at this step of its plan, as the machine that stands for it does
abbrev pub WaitsAt : RunningData → Tree → Type 0
WaitsAt b step = (r : RunData) × StandsFor r b.plan b.inputs b.exchanges × (step_at r.at r.plan ≡ Some step)

-- the one ask of a build is answered, at the step at which it waits: from a state, with the shelf's calls before and after; the
-- answer keeps what every event keeps
pub record AnswersBuild (places : PlacesData) (b : RunningData) (old : State) (before : List CallData) (did : Done)
    (reply : Reply) (after : List CallData) (new : State) : Type 0 where
  pub turn : ℕ
  pub ask : AskData
  pub has_turn : HasTurn b.exchanges turn
  pub wanted : IsNext b.inputs b.plan b.exchanges ask
  pub at : Tree
  pub waits_at : WaitsAt b at
  pub x : SaidData
  pub answers : Answers places (resources_of old) b.job b.number (step_label at) ask before after did.pair x
  pub given : AnswerData
  pub is_given : IsGiven old b turn x.answer given
  pub step : Step old (answer b.job b.number turn given) (Ok reply) new
  pub kept : IsEvent (answer b.job b.number turn given)
  pub event : did.event ≡ Some (answer b.job b.number turn given, Ok reply)
  pub lines : did.lines ≡ lines_of (answer b.job b.number turn given) (Ok reply) new.history

-- a build is aborted, and no program is started
pub record AbortsBuild (b : RunningData) (old : State) (did : Done) (reply : Reply) (new : State) : Type 0 where
  pub pair : did.pair ≡ None
  pub step : Step old (abort b.job b.number) (Ok reply) new
  pub event : did.event ≡ Some (abort b.job b.number, Ok reply)
  pub lines : did.lines ≡ lines_of (abort b.job b.number) (Ok reply) new.history

-- a build is aborted where that is asked, and else its one ask is answered
abbrev pub GoesOnBy : Bool → PlacesData → RunningData → State → List CallData → Done → Reply → List CallData → State
    → Type 0
GoesOnBy true places b old before did reply after new = AbortsBuild b old did reply new × (after ≡ before)
GoesOnBy false places b old before did reply after new = AnswersBuild places b old before did reply after new

-- a build is served: it is looked whether it is asked that it be aborted, it goes on by that, and what it leaves is
-- cleared away if it ends
pub record ServesBuild (places : PlacesData) (b : RunningData) (old : World) (did : Done) (new : World) : Type 0 where
  pub asked : Bool
  pub looked : List CallData
  pub is_asked : AbortIsAsked (abort_folder places b.job b.number) asked old.calls looked
  pub reply : Reply
  pub calls : List CallData
  pub goes_on : GoesOnBy asked places b old.core looked did reply calls new.core
  pub clears : Clears places b.job b.number reply calls new.calls
  pub last : new.last ≡ rank_in old.core.history b
  pub lost : new.lost ≡ old.lost

-- the event that wasn't made of a turn is an answer to the job's build of this number with these exchanges, at its turn; it may not
-- have got so far
abbrev pub MayAnswer : Text → ℕ → List Exchange → Option EventData → Type 0
MayAnswer job number exchanges None = ⊤
MayAnswer job number exchanges (Some e) =
    (turn : ℕ) × (given : AnswerData) × HasTurn exchanges turn × (e ≡ answer job number turn given)

-- the answer to the one ask of a build was begun, at the step at which it waits, in a state, with the shelf's calls before and
-- after
pub record BeginsAsk (places : PlacesData) (b : RunningData) (s : State) (before after : List CallData)
    (lost : Loss) : Type 0 where
  pub ask : AskData
  pub wanted : IsNext b.inputs b.plan b.exchanges ask
  pub at : Tree
  pub waits_at : WaitsAt b at
  pub begins : BeginsAnswer places (resources_of s) b.job b.number (step_label at) ask before after lost.pair
  pub may : MayAnswer b.job b.number b.exchanges lost.event

-- of an abort its event wasn't made, and nothing else was begun; else the answer to the one ask of a build was begun
abbrev pub BeginsOn : Bool → PlacesData → RunningData → State → List CallData → List CallData → Loss → Type 0
BeginsOn true places b s before after lost =
    (after ≡ before) × (lost ≡ record { pair = None; event = Some (abort b.job b.number) })
BeginsOn false places b s before after lost = BeginsAsk places b s before after lost

-- a turn of a build was begun: it was looked whether it is asked that it be aborted, it went on by that, and its event isn't
-- made
pub record BeginsBuild (places : PlacesData) (b : RunningData) (old new : World) : Type 0 where
  pub asked : Bool
  pub looked : List CallData
  pub is_asked : AbortIsAsked (abort_folder places b.job b.number) asked old.calls looked
  pub begins : BeginsOn asked places b old.core looked new.calls new.lost
  pub core : new.core ≡ old.core
  pub last : new.last ≡ old.last

-- the build whose turn it is
abbrev pub next_build : World → Option RunningData
next_build w = next_after (rank_in w.core.history) w.last w.core.running

-- a turn of a build; where none runs, nothing
abbrev pub TakesTurn : PlacesData → Option RunningData → World → Done → World → Type 0
TakesTurn places None old did new = (did ≡ nothing) × (new ≡ old)
TakesTurn places (Some b) old did new = ServesBuild places b old did new

-- a turn of a build was begun
abbrev pub BeginsTurn : PlacesData → Option RunningData → World → World → Type 0
BeginsTurn places None old new = ⊥
BeginsTurn places (Some b) old new = BeginsBuild places b old new

-- ---- showing
-- what is asked for is shown with a status; nothing changes
pub record Shows (what : ShownData) (status : ℕ) (old : World) (did : Done) (new : World) : Type 0 where
  pub pair : did.pair ≡ None
  pub event : did.event ≡ None
  pub shown : IsShown what (pipeline_of old.core) old.core.history old.core.budget status did.lines
  pub same : new ≡ old

-- ---- items
-- what a server does of an item
abbrev pub DoesItem : PlacesData → Item → World → Done → World → Type 0
DoesItem places (check resource) old did new = Checks places resource old did new
DoesItem places (schedule job) old did new = Tells places (event.schedule job) old did new
DoesItem places turn old did new = TakesTurn places (next_build old) old did new
DoesItem places (tell e) old did new = Tells places e old did new × IsTaken e did
DoesItem places (show what status) old did new = Shows what status old did new

-- what a server may have begun of an item that is cut short, beside nothing: its event wasn't made; only a check and a turn call
-- the shelf before that, and run a program
abbrev pub BeginsItem : PlacesData → Item → World → World → Type 0
BeginsItem places (check resource) old new = BeginsCheck places resource old new
BeginsItem places (schedule job) old new = new ≡ unmade (event.schedule job) old
BeginsItem places turn old new = BeginsTurn places (next_build old) old new
BeginsItem places (tell e) old new = new ≡ unmade e old
BeginsItem places (show what status) old new = ⊥

-- WHAT A SERVER DOES of an item, and what it may have begun of one that is cut short
abbrev pub Serves : PlacesData → Serve
Serves places = record { does = DoesItem places; begins = BeginsItem places }

-- these items in order, of a server with these directories
abbrev pub ItemsOf : List Item → PlacesData → Part
ItemsOf is places = Items (Serves places) is
