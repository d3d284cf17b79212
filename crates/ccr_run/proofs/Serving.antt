-- What came of an order, from what its parts say.
use Rattle.std.proofs.Common.{◌≡◌, refl, ◌∙◌, inl, inr, ℕ, List, [], ◌∷◌, ◌++◌, Option, option_map, Result, Ok, Err, ap, sym, subst, string_bytes}
use Rattle.sqlite.specs.declared.error.Error.{Error}
use Rattle.ccr_history.specs.Text.{Text}
use Rattle.ccr_history.specs.Counts.{RoseBy}
use Rattle.ccr_history.specs.History.{HistoryData}
use Rattle.ccr_history.specs.declared.storage.Storage as storage
use Rattle.ccr_history.specs.declared.store_fault.StoreFault.{StoreFault}
use Rattle.ccr_process.specs.declared.runner.Runner as runner
use Rattle.ccr_task.specs.declared.places.Places.{Places}
use Rattle.ccr_task.specs.declared.shelf.Shelf as shelf
use Rattle.ccr_task.specs.Places.{PlacesData, places_data}
use Rattle.ccr_core.specs.Commands.{command_data}
use Rattle.ccr_serve.specs.declared.fault.ServeFault.{ServeFault}
use Rattle.ccr_serve.specs.declared.fault.ServeFault.TheVariants as fault
use Rattle.ccr_serve.specs.declared.server.Server.{Server}
use Rattle.ccr_serve.specs.Views.{View, Ends, IsKept}
use Rattle.ccr_serve.specs.Commanding.{CameOf}
use Rattle.ccr_run.specs.Asked.{AskedData}
use Rattle.ccr_run.specs.declared.failure.Failure.{Failure}
use Rattle.ccr_run.specs.declared.left.Left.{Left}
use Rattle.ccr_run.specs.declared.left.Left.TheVariants as left
use Rattle.ccr_run.specs.declared.left.Tools.{Tools}
use Rattle.ccr_run.specs.declared.order.Order.{Order}
use Rattle.ccr_run.specs.Served.{Begins, Coming, Did, DidCommand, Served, IsUnserved, IsUnbegun, IsUnopened, seen, handed_on, places_in}

abbrev folders : Text → Text → Option Text → PlacesData
folders types work launcher = record { types = types; work = work; launcher = launcher }

-- the folders that were made are those of the options, and so is the launcher
pub same_places : (order : Order) (p : Places) → string_bytes p.types ≡ order.options.types.now
    → string_bytes p.work ≡ order.options.work.now
    → option_map string_bytes p.launcher ≡ option_map (λ l. l.now) order.options.launcher
    → places_data p ≡ places_in order
same_places order p types work launcher =
    ap (λ (t : Text). folders t (string_bytes p.work) (option_map string_bytes p.launcher)) types
    ∙ (ap (λ (w : Text). folders order.options.types.now w (option_map string_bytes p.launcher)) work
    ∙ ap (λ (l : Option Text). folders order.options.types.now order.options.work.now l) launcher)

-- what was given is handed back
pub same_tools : {R F : Type 0} (given kept : Tools R F) → kept.runner ≡ given.runner → kept.shelf ≡ given.shelf → kept ≡ given
same_tools {R} {F} given kept runner shelf =
    ap (λ (r : R). record { runner = r; shelf = kept.shelf }) runner ∙ ap (λ (s : F). record { runner = given.runner; shelf = s }) shelf

-- the first commit of a storage that was asked for none
pub counted : (zero one : ℕ) → zero ≡ 0 → RoseBy zero 1 one → RoseBy 0 1 one
counted zero one is rose = subst (λ (n : ℕ). RoseBy n 1 one) is rose

-- a server that has ended a command goes on, or has closed
pub ends_kept : (end : Result ℕ ServeFault) (v : View) → Ends end v → IsKept v
ends_kept (Ok status) v it = λ up. it
ends_kept (Err (fault.Core why)) v it = λ up. it
ends_kept (Err (fault.Store why)) v it = let closed = it.0 in λ up. absurd (cc)
ends_kept (Err (fault.Read why)) v it = λ up. it
ends_kept (Err fault.File) v it = λ up. it
ends_kept (Err fault.BadPin) v it = λ up. it
ends_kept (Err fault.NoMemory) v it = λ up. it
ends_kept (Err fault.Closed) v it = λ up. absurd (cc)
ends_kept (Err fault.TurnsUsedUp) v it = λ up. it

module _ {R F T : Type 0} (r : runner.Ghosts R) (s : shelf.Ghosts F) (t : storage.Ghosts T) where
  -- a server did the command, whose folders are those of the options
  pub did : (order : Order) (opened kept : Server R F T) (answer : Result ℕ ServeFault) (end : Result ℕ Failure) (old new : Text)
      → places_data opened.places ≡ places_in order
      → CameOf (places_data opened.places) (command_data order.command) answer (seen r s t opened old) (seen r s t kept new)
      → end ≡ handed_on answer → IsKept (seen r s t kept new) → Did r s t order opened end kept old new
  did order opened kept answer end old new same came is stands = record {
    answer = answer;
    came = subst (λ (q : PlacesData). CameOf q (command_data order.command) answer (seen r s t opened old) (seen r s t kept new)) same came;
    end_is = is;
    stands = stands;
  }

  -- a server that has just begun did what was ordered, and nothing was shown while it was opened
  pub did_command : (begins_with : T → HistoryData → Type 0) (order : Order) (given : Tools R F) (database : T) (h : HistoryData)
      (opened kept : Server R F T) (end : Result ℕ Failure) (shown old new : Text) → shown ≡ old → begins_with database h
      → Begins r s t h order.options.budget given (seen r s t opened []) → Did r s t order opened end kept shown new
      → DidCommand r s t begins_with order given end kept old new
  did_command begins_with order given database h opened kept end shown old new same found begins did = record {
    storage = database;
    history = h;
    found = found;
    opened = opened;
    begins = record {
      ready = begins.ready;
      resumed = begins.resumed;
      last = begins.last;
      pairs = begins.pairs;
      calls = begins.calls;
      counted = begins.counted;
    };
    did = subst (λ (l : Text). Did r s t order opened end kept l new) same did;
  }

-- no server was made, for a cause, and nothing is printed
pub unserved : {K : Type 0} (cause : Failure → Type 0) (given kept : K) (failure : Failure) (old new : Text) → cause failure → kept ≡ given
    → new ≡ old → IsUnserved cause given (Err failure) kept old new
unserved cause given kept failure old new why same quiet =
    record { failure = failure; end_is = refl; why = why; same = same; unprinted = quiet }

-- the same, for a cause that is another's too
unserved_for : {K : Type 0} (one other : Failure → Type 0) (given kept : K) (end : Result ℕ Failure) (old new : Text)
    → ((failure : Failure) → one failure → other failure) → IsUnserved one given end kept old new → IsUnserved other given end kept old new
unserved_for one other given kept end old new so it = record {
  failure = it.failure;
  end_is = it.end_is;
  why = so it.failure it.why;
  same = it.same;
  unprinted = it.unprinted;
}

-- a database that was shut out so is shut out otherwise too
shut_for : (one other : Error → Type 0) → ((error : Error) → one error → other error) → (order : Order) (asked : List AskedData)
    (failure : Failure) → IsUnopened one order asked failure → IsUnopened other order asked failure
shut_for one other so order asked failure (inl none) = inl none
shut_for one other so order asked failure (inr shut) = inr (shut.0, shut.1, shut.2, so shut.0 shut.3)

module _ {R F T : Type 0} (r : runner.Ghosts R) (s : shelf.Ghosts F) (t : storage.Ghosts T) where
  -- a history that was found so is found otherwise too
  begun_for : (one other : T → HistoryData → Type 0) → ((d : T) (h : HistoryData) → one d h → other d h) → (kept : T) (failure : Failure)
      → IsUnbegun r s t one kept failure → IsUnbegun r s t other kept failure
  begun_for one other so kept failure it = record {
    storage = it.storage;
    history = it.history;
    found = so it.storage it.history it.found;
    fault = it.fault;
    keeps = it.keeps;
    failure_is = it.failure_is;
  }

module _ {R F T C : Type 0} (r : runner.Ghosts R) (s : shelf.Ghosts F) (t : storage.Ghosts T) where
  -- what came of an order over a database that came so came of it over one that comes otherwise, if all that is said of the one is true
  -- of the other
  pub served_for : (one other : Coming T C) → ((d : T) (h : HistoryData) → one.begins_with d h → other.begins_with d h)
      → ((error : Error) → one.unopened error → other.unopened error)
      → ((fault : StoreFault) (c : C) → one.unfound fault c → other.unfound fault c)
      → (order : Order) (asked : List AskedData) (given : Tools R F) (end : Result ℕ Failure) (kept : Left R F T C) (old new : Text)
      → Served r s t one order asked given end kept old new → Served r s t other order asked given end kept old new
  served_for one other begun shut bare order asked given end (left.Served server) old new it = (
    it.0,
    record {
      storage = it.1.storage;
      history = it.1.history;
      found = begun it.1.storage it.1.history it.1.found;
      opened = it.1.opened;
      begins = it.1.begins;
      did = it.1.did;
    },
  )
  served_for one other begun shut bare order asked given end (left.Unbegun tools storage) old new it =
      (it.0, unserved_for _ _ given tools end old new (begun_for r s t one.begins_with other.begins_with begun storage) it.1)
  served_for one other begun shut bare order asked given end (left.Unfound tools conn) old new it =
      (it.0, unserved_for _ _ given tools end old new (λ failure why. (why.0, bare why.0 conn why.1, why.2)) it.1)
  served_for one other begun shut bare order asked given end (left.Unopened tools) old new it =
      unserved_for _ _ given tools end old new (shut_for one.unopened other.unopened shut order asked) it

  -- what was asked of the files is what is named
  pub served_as : (coming : Coming T C) (order : Order) (asked named : List AskedData) (given : Tools R F) (end : Result ℕ Failure)
      (kept : Left R F T C) (old new : Text) → asked ≡ named → Served r s t coming order named given end kept old new
      → Served r s t coming order asked given end kept old new
  served_as coming order asked named given end kept old new is it =
      subst (λ (these : List AskedData). Served r s t coming order these given end kept old new) (sym is) it

-- what was asked where nothing was before
pub asked_alone : (old new : List AskedData) (asked : AskedData) → old ≡ [] → new ≡ old ++ asked ∷ [] → new ≡ asked ∷ []
asked_alone old new asked none is = is ∙ ap (λ (these : List AskedData). these ++ asked ∷ []) none
