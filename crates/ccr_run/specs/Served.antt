-- What came of an order.
use Rattle.std.specs.Prelude.{◌≡◌, ◌⊎◌, ℕ, List, [], ◌∷◌, Option, Some, None, option_map, Result, Ok, Err}
use Rattle.sqlite.specs.declared.error.Error.{Error}
use Rattle.ccr_history.specs.Text.{Text}
use Rattle.ccr_history.specs.Counts.{RoseBy}
use Rattle.ccr_history.specs.History.{HistoryData}
use Rattle.ccr_history.specs.declared.storage.Storage as storage
use Rattle.ccr_history.specs.declared.store_fault.StoreFault.{StoreFault}
use Rattle.ccr_process.specs.declared.runner.Runner as runner
use Rattle.ccr_task.specs.Places.{PlacesData}
use Rattle.ccr_task.specs.declared.shelf.Shelf as shelf
use Rattle.ccr_core.specs.Commands.{command_data}
use Rattle.ccr_core.specs.Resumed.{IsResumed}
use Rattle.ccr_serve.specs.Commanding.{CameOf}
use Rattle.ccr_serve.specs.Unopened.{KeepsFromOpening}
use Rattle.ccr_serve.specs.Views.{View, view_of, IsKept, IsReady}
use Rattle.ccr_serve.specs.declared.fault.ServeFault.{ServeFault}
use Rattle.ccr_serve.specs.declared.fault.ServeFault.TheVariants.{NoMemory, Store}
use Rattle.ccr_serve.specs.declared.server.Server.{Server}
use Rattle.ccr_run.specs.declared.failure.Failure.{Failure}
use Rattle.ccr_run.specs.declared.failure.Failure.TheVariants.{Refused}
use Rattle.ccr_run.specs.declared.left.Left.{Left}
use Rattle.ccr_run.specs.declared.left.Left.TheVariants as left
use Rattle.ccr_run.specs.declared.left.Tools.{Tools}
use Rattle.ccr_run.specs.declared.order.Order.{Order}
use Rattle.ccr_run.specs.Asked.{AskedData}
use Rattle.ccr_run.specs.Asked as files
use Rattle.ccr_run.specs.Opening.{failure_of}

-- the server's folders are those of the options, and so is its launcher
abbrev pub places_in : Order → PlacesData
places_in order = record {
  types = order.options.types.now;
  work = order.options.work.now;
  launcher = option_map (λ l. l.now) order.options.launcher;
}

-- how a command ended, as the program hands it on: its status, or its refusal
abbrev pub handed_on : Result ℕ ServeFault → Result ℕ Failure
handed_on (Ok status) = Ok status
handed_on (Err fault) = Err (Refused fault)

-- all that was asked of the files is that the database be opened which the options name, and it was answered so
abbrev pub IsOpenOf : Order → Option Error → List AskedData → Type 0
IsOpenOf order error asked = asked ≡ files.opened order.options.database.now error ∷ []

-- with this runner, this shelf and this storage
module _ {R F T : Type 0} (r : runner.Ghosts R) (s : shelf.Ghosts F) (t : storage.Ghosts T) where
  -- what a server holds whose lines these are
  abbrev pub seen : Server R F T → Text → View
  seen server lines = view_of r.pairs s.calls t.holds t.leaves t.tally server lines

  -- a server begins with a history, in which what still ran is cut short, which was its storage's first commit: it goes on, and
  -- has neither run a program nor called its shelf
  pub record Begins (h : HistoryData) (budget : ℕ) (given : Tools R F) (v : View) : Type 0 where
    pub ready : IsReady v
    pub resumed : IsResumed h budget v.core
    pub last : v.last ≡ 0
    pub pairs : v.pairs ≡ r.pairs given.runner
    pub calls : v.calls ≡ s.calls given.shelf
    pub counted : RoseBy 0 1 v.tally.commits

  -- a server did the command: from one value of it to another, with these lines before and after; it goes on, or has closed
  pub record Did (order : Order) (opened : Server R F T) (end : Result ℕ Failure) (kept : Server R F T) (old new : Text) : Type 0 where
    pub answer : Result ℕ ServeFault
    pub came : CameOf (places_in order) (command_data order.command) answer (seen opened old) (seen kept new)
    pub end_is : end ≡ handed_on answer
    pub stands : IsKept (seen kept new)

  -- a server was made over the history that was found, and did the command; it is the one that is left
  pub record DidCommand (begins_with : T → HistoryData → Type 0) (order : Order) (given : Tools R F) (end : Result ℕ Failure)
      (kept : Server R F T) (old new : Text) : Type 0 where
    pub storage : T
    pub history : HistoryData
    pub found : begins_with storage history
    pub opened : Server R F T
    pub begins : Begins history order.options.budget given (seen opened old)
    pub did : Did order opened end kept old new

  -- no server was opened over the history that was found: it was out of memory, or the storage's first commit failed, and this
  -- is the storage since
  pub record IsUnbegun (begins_with : T → HistoryData → Type 0) (kept : T) (failure : Failure) : Type 0 where
    pub storage : T
    pub history : HistoryData
    pub found : begins_with storage history
    pub fault : ServeFault
    pub keeps : KeepsFromOpening t.holds t.leaves t.tally history storage kept fault
    pub failure_is : failure ≡ Refused fault

-- no server is made, for a cause; nothing was run, the shelf wasn't called, and nothing is printed
pub record IsUnserved {K : Type 0} (cause : Failure → Type 0) (given : K) (end : Result ℕ Failure) (kept : K) (old new : Text)
    : Type 0 where
  pub failure : Failure
  pub end_is : end ≡ Err failure
  pub why : cause failure
  pub same : kept ≡ given
  pub unprinted : new ≡ old

-- no history was found in the database that was opened, whose connection is left so
abbrev pub IsBare : {C : Type 0} → (StoreFault → C → Type 0) → C → Failure → Type 0
IsBare unfound conn failure = (fault : StoreFault) × unfound fault conn × (failure ≡ Refused (Store fault))

-- no database was opened: it was out of memory before anything was asked of the files; or the open was answered with an error, which is
-- the failure
abbrev pub IsUnopened : (Error → Type 0) → Order → List AskedData → Failure → Type 0
IsUnopened unopened order asked failure =
    ((asked ≡ []) × (failure ≡ Refused NoMemory))
    ⊎ ((error : Error) × (failure ≡ failure_of error) × IsOpenOf order (Some error) asked × unopened error)

-- how a database comes to a server: what its storage begins with, how its open is answered, and why no history is found in it,
-- with its connection since
pub record Coming (T C : Type 0) : Type 1 where
  pub begins_with : T → HistoryData → Type 0
  pub unopened : Error → Type 0
  pub unfound : StoreFault → C → Type 0

module _ {R F T C : Type 0} (r : runner.Ghosts R) (s : shelf.Ghosts F) (t : storage.Ghosts T) (coming : Coming T C) where
  -- WHAT CAME OF AN ORDER, with what was given and with what is left: a server over the database that the options name did the
  -- command; or none was made, since none was opened over the storage, no history was found, or no database was opened
  abbrev pub Served : Order → List AskedData → Tools R F → Result ℕ Failure → Left R F T C → Text → Text → Type 0
  Served order asked given end (left.Served server) old new =
      IsOpenOf order None asked × DidCommand r s t coming.begins_with order given end server old new
  Served order asked given end (left.Unbegun tools storage) old new =
      IsOpenOf order None asked × IsUnserved (IsUnbegun r s t coming.begins_with storage) given end tools old new
  Served order asked given end (left.Unfound tools conn) old new =
      IsOpenOf order None asked × IsUnserved (IsBare coming.unfound conn) given end tools old new
  Served order asked given end (left.Unopened tools) old new =
      IsUnserved (IsUnopened coming.unopened order asked) given end tools old new
