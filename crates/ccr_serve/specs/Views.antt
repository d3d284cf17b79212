-- What a call of the server shows.
use Rattle.std.specs.Prelude.{◌≡◌, ◌≢◌, ◌≤◌, ◌+◌, ℕ, List, [], ◌∷◌, ◌++◌, length, nat_lt, Bool, true, false, Option, None, Some, option_to_list, Result, Ok, Err, OnErr, unwrap_or, ⊤}
use Rattle.ccr_history.specs.Text.{Text}
use Rattle.ccr_history.specs.History.{HistoryData}
use Rattle.ccr_pipeline.specs.JobData.{ResourceData, JobData}
use Rattle.ccr_process.specs.Runs.{Pair}
use Rattle.ccr_process.specs.declared.runner.Runner as runner
use Rattle.ccr_task.specs.Calls.{CallData}
use Rattle.ccr_task.specs.declared.places.Places.{Places}
use Rattle.ccr_task.specs.declared.shelf.Shelf as shelf
use Rattle.ccr_core.specs.declared.fault.CoreFault.TheVariants as core_fault
use Rattle.ccr_core.specs.Cores.{core_data}
use Rattle.ccr_core.specs.Events.{EventData}
use Rattle.ccr_core.specs.Holding.{CoreData, Stands, TakesStep}
use Rattle.ccr_core.specs.Kept.{IsEvent}
use Rattle.ccr_core.specs.Replies.{Replied}
use Rattle.ccr_core.specs.State.{State, no_pipeline}
use Rattle.ccr_lines.specs.declared.lines.Lines as out
use Rattle.ccr_history.specs.Counts.{RoseBy}
use Rattle.ccr_history.specs.declared.store_fault.StoreFault.{StoreFault}
use Rattle.ccr_history.specs.declared.storage.Storage as storage
use Rattle.ccr_history.specs.declared.tally.Tally.{Tally}
use Rattle.ccr_serve.specs.declared.fault.ServeFault.{ServeFault}
use Rattle.ccr_serve.specs.declared.fault.ServeFault.TheVariants.{Store, NoMemory, Closed}
use Rattle.ccr_serve.specs.declared.server.Server.{Server}
use Rattle.ccr_serve.specs.Crash.{LeavesAt}
use Rattle.ccr_serve.specs.Items.{Loss, no_loss, World, Done, Part, pairs_of, lines_of_all}
use Rattle.ccr_serve.specs.Taken.{taken_in, commits_for}

-- what a server holds: its core, the rank of the build served last, the calls of its shelf, what its runner ran,
-- which history its storage holds, which ones a crash may leave there, the tally of its storage's commits, its directories,
-- what it has printed, and whether its storage failed
pub record View : Type 1 where
  pub core : CoreData
  pub last : ℕ
  pub calls : List CallData
  pub pairs : List Pair
  pub holds : HistoryData → Type 0
  pub leaves : List HistoryData → Type 0
  pub tally : Tally
  pub places : Places
  pub lines : Text
  pub closed : Bool

-- what a server holds that has printed these lines
abbrev pub view_of : {R S T : Type 0} → (R → List Pair) → (S → List CallData) → (T → HistoryData → Type 0)
    → (T → List HistoryData → Type 0) → (T → Tally) → Server R S T → Text → View
view_of pairs calls holds leaves tally server lines = record {
  core = core_data server.core;
  last = server.last;
  calls = calls server.shelf;
  pairs = pairs server.runner;
  holds = holds server.storage;
  leaves = leaves server.storage;
  tally = tally server.storage;
  places = server.places;
  lines = lines;
  closed = server.closed;
}

-- what a server holds that has printed nothing yet, by what is said of its runner, its shelf and its storage
abbrev pub bare_view : {R S T : Type 0} → runner.Ghosts R → shelf.Ghosts S → storage.Ghosts T → Server R S T → View
bare_view r s t server = view_of r.pairs s.calls t.holds t.leaves t.tally server []

-- what a server holds whose lines went here
abbrev pub full_view : {R S T O : Type 0} → runner.Ghosts R → shelf.Ghosts S → storage.Ghosts T → out.Ghosts O
    → Server R S T → O → View
full_view r s t o server lines = view_of r.pairs s.calls t.holds t.leaves t.tally server (o.written lines)

-- what a server held when its shelf had these calls
abbrev pub with_calls : List CallData → View → View
with_calls cs v = record {
  core = v.core;
  last = v.last;
  calls = cs;
  pairs = v.pairs;
  holds = v.holds;
  leaves = v.leaves;
  tally = v.tally;
  places = v.places;
  lines = v.lines;
  closed = v.closed;
}

-- the resources of a core's pipeline; none where none was set
abbrev pub resources_held : CoreData → List ResourceData
resources_held c = (unwrap_or c.pipeline no_pipeline).resources

-- the jobs of a core's pipeline; none where none was set
abbrev pub jobs_held : CoreData → List JobData
jobs_held c = (unwrap_or c.pipeline no_pipeline).jobs

-- where a server stands whose core stands for this state
abbrev pub world_of : View → State → World
world_of v s = record { core = s; last = v.last; calls = v.calls; lost = no_loss }

-- a server is open, no commit of its storage has failed, the storage holds this history, and a crash leaves that one
pub record IsCurrent (h : HistoryData) (closed : Bool) (tally : Tally) (IsHeld : HistoryData → Type 0)
    (AreLeft : List HistoryData → Type 0) : Type 0 where
  pub is_open : closed ≡ false
  pub unfailed : tally.fault ≡ None
  pub holds : IsHeld h
  pub leaves : AreLeft (h ∷ [])

-- the server goes on: it is current with its core's history
abbrev pub IsReady : View → Type 0
IsReady v = IsCurrent v.core.history v.closed v.tally v.holds v.leaves

-- ---- calls
-- the pair that answers for no item, and the event that wasn't made: none in a whole call; else there may be one, that of the
-- item that was cut short
abbrev pub MayBeLost : Bool → Loss → Type 0
MayBeLost true lost = lost ≡ no_loss
MayBeLost false lost = ⊤

-- how many commits were asked for, from one tally to another, beside so many: none in a whole call, else at most one
abbrev pub HasAsked : Bool → ℕ → ℕ → ℕ → Type 0
HasAsked true before n after = RoseBy before n after
HasAsked false before n after = (more : ℕ) × (more ≤ 1) × RoseBy before (n + more) after

-- where a server is after the items that were done: there, if the call is whole; cut short, it has closed, or is there
abbrev pub StandsAt : Bool → Bool → World → View → Type 0
StandsAt true closed now new = (closed ≡ false) × Stands new.core now.core × (new.last ≡ now.last)
StandsAt false true now new = ⊤
StandsAt false false now new = Stands new.core now.core × (new.last ≡ now.last)

-- what a call did from a state: a part, whole or cut short. Its new pairs are those of its items, in order, with none
-- left over, but for that of the item that was cut short; its shelf had the calls of its items, in order, and what was
-- begun of them by that item, and no other; the storage was asked for a commit of each event that the core took, and for
-- no other, but for at most one where it was cut short; the lines of its items are printed; the storage holds the history
-- after them; and a crash leaves that one, or, once the server has closed, that of one event more, which is that of the item that
-- was cut short
pub record Called (part : Part) (old : View) (s : State) (whole : Bool) (new : View) : Type 0 where
  pub dones : List Done
  pub now : World
  pub does : part (world_of old s) dones whole now
  pub pairs : new.pairs ≡ old.pairs ++ (pairs_of dones ++ option_to_list now.lost.pair)
  pub few : MayBeLost whole now.lost
  pub calls : new.calls ≡ now.calls
  pub commits : HasAsked whole old.tally.commits (taken_in dones) new.tally.commits
  pub lines : new.lines ≡ old.lines ++ lines_of_all dones
  pub holds : new.holds now.core.history
  pub crash : LeavesAt new.closed (λ e. now.lost.event ≡ Some e) new.leaves now.core
  pub stands : StandsAt whole new.closed now new

-- WHAT A CALL DID, from each state that the core stood for
pub record Calls (part : Part) (old : View) (whole : Bool) (new : View) : Type 0 where
  pub from : (s : State) → Stands old.core s → Called part old s whole new

-- the storage failed so: its last commit did, and the server has closed
abbrev pub IsFailed : StoreFault → View → Type 0
IsFailed f v = (v.closed ≡ true) × (v.tally.fault ≡ Some f)

-- why a call of items ends early, of a server that had closed before or not: memory ran out, and the server
-- goes on; its storage failed so, and it has closed; or it had closed before
abbrev pub StopsItem : Bool → ServeFault → View → Type 0
StopsItem closed NoMemory v = IsReady v
StopsItem closed (Store f) v = IsFailed f v
StopsItem closed Closed v = (closed ≡ true) × (v.closed ≡ true)
StopsItem closed f v = ⊥

-- between calls a server goes on, or it has closed
abbrev pub IsKept : View → Type 0
IsKept v = v.closed ≡ false → IsReady v

-- how a server stands after a command: it has closed if its storage failed, now or before, and else it goes on
abbrev pub Ends : {A : Type 0} → Result A ServeFault → View → Type 0
Ends (Err (Store f)) v = IsFailed f v
Ends (Err Closed) v = v.closed ≡ true
Ends r v = IsReady v

-- how a server stands after items that had closed before or not: nothing else than memory, its storage and its having
-- closed ends them early
abbrev pub EndsItems : {A : Type 0} → Bool → Result A ServeFault → View → Type 0
EndsItems closed (Ok a) v = IsReady v
EndsItems closed (Err f) v = StopsItem closed f v

-- the commits of a turn: one where a build runs, and none where none does; at most one where it ends early
abbrev pub CommitsOnce : Result Bool ServeFault → View → View → Type 0
CommitsOnce (Ok true) old new = RoseBy old.tally.commits 1 new.tally.commits
CommitsOnce (Ok false) old new = RoseBy old.tally.commits 0 new.tally.commits
CommitsOnce (Err f) old new = HasAsked false old.tally.commits 0 new.tally.commits

-- the commits of a turn of a build that runs: one; at most one where it ends early
abbrev pub CommitsBuild : Result Unit ServeFault → View → View → Type 0
CommitsBuild (Ok u) old new = RoseBy old.tally.commits 1 new.tally.commits
CommitsBuild (Err f) old new = HasAsked false old.tally.commits 0 new.tally.commits

-- whether a build runs
abbrev pub is_running : CoreData → Bool
is_running c = nat_lt 0 (length c.names)

-- ---- events
-- nothing but the core and the storage has changed
pub record IsElse (old new : View) : Type 0 where
  pub last : new.last ≡ old.last
  pub calls : new.calls ≡ old.calls
  pub pairs : new.pairs ≡ old.pairs
  pub places : new.places ≡ old.places
  pub lines : new.lines ≡ old.lines

-- an event was made, which keeps what every event keeps: the core took it, and a commit stored what it changed; or it
-- refused it, for another cause than memory, stayed as it was, and there was no commit
pub record Made (e : EventData) (r : Replied) (old new : View) : Type 0 where
  pub takes : TakesStep old.core new.core e r
  pub kept : IsEvent e
  pub refused : OnErr r (new.core ≡ old.core)
  pub found_memory : r ≢ Err core_fault.NoMemory
  pub ready : IsReady new
  pub commits : RoseBy old.tally.commits (commits_for r) new.tally.commits
  pub rest : IsElse old new

-- an event was kept away: the core is as it was, or the storage failed
abbrev pub IsBack : ServeFault → View → View → Type 0
IsBack NoMemory old new = (new.core ≡ old.core) × IsReady new
IsBack (Store f) old new = IsFailed f new
IsBack f old new = ⊥

-- an event wasn't made, for this fault, and at most one commit was asked for; the storage holds what it held, and a crash
-- leaves that, or, once the server has closed, the history with this event
pub record Unmade (e : EventData) (f : ServeFault) (old new : View) : Type 0 where
  pub back : IsBack f old new
  pub holds : new.holds old.core.history
  pub crash : (s : State) → Stands old.core s → LeavesAt new.closed (λ x. x ≡ e) new.leaves s
  pub commits : HasAsked false old.tally.commits 0 new.tally.commits
  pub rest : IsElse old new
