-- What the contract of a server's call says: what was done, and how the server is left.
use Rattle.std.specs.Prelude.{◌≡◌, ℕ, List, [], ◌∷◌, Bool, Result, is_ok}
use Rattle.ccr_history.specs.Text.{Text}
use Rattle.ccr_core.specs.Commands.{CommandData}
use Rattle.ccr_lines.specs.declared.lines.Lines as out
use Rattle.ccr_process.specs.declared.runner.Runner as runner
use Rattle.ccr_history.specs.declared.storage.Storage as storage
use Rattle.ccr_task.specs.Calls.{CallData}
use Rattle.ccr_task.specs.Places.{PlacesData, places_data, abort_folder}
use Rattle.ccr_task.specs.declared.shelf.Shelf as shelf
use Rattle.ccr_serve.specs.Aborts.{AbortIsAsked}
use Rattle.ccr_serve.specs.Commanding.{CameOf}
use Rattle.ccr_serve.specs.Items.{Part, turn}
use Rattle.ccr_serve.specs.Serving.{ItemsOf}
use Rattle.ccr_serve.specs.Views.{full_view, with_calls, Calls, Ends, EndsItems}
use Rattle.ccr_serve.specs.declared.fault.ServeFault.{ServeFault}
use Rattle.ccr_serve.specs.declared.server.Server.{Server}

-- a call of a server with this runner, this shelf and this storage, whose lines go here: from one value of the server to
-- another, and of what its lines go to
module _ {R S T O : Type 0} (r : runner.Ghosts R) (s : shelf.Ghosts S) (t : storage.Ghosts T) (o : out.Ghosts O) where
  -- WHAT WAS DONE: this part, by the server's directories; the whole of it where the result is good, else cut short
  abbrev pub Serving : {A : Type 0} → (PlacesData → Part) → Result A ServeFault → Server R S T → Server R S T → O → O
      → Type 0
  Serving part result old new before after =
      Calls (part (places_data old.places)) (full_view r s t o old before) (is_ok result) (full_view r s t o new after)

  -- WHAT WAS DONE OF A TURN of the job's build of this number, of which it was just looked, with this answer, whether its abort
  -- is asked: with that look it is a turn
  abbrev pub ServingLooked : {A : Type 0} → Bool → Text → ℕ → Result A ServeFault → Server R S T → Server R S T → O → O
      → Type 0
  ServingLooked asked job number result old new before after =
      (calls : List CallData)
      → AbortIsAsked (abort_folder (places_data old.places) job number) asked calls (s.calls old.shelf)
      → Calls (ItemsOf (turn ∷ []) (places_data old.places)) (with_calls calls (full_view r s t o old before))
      (is_ok result) (full_view r s t o new after)

  -- WHAT CAME OF A COMMAND, by the server's directories
  abbrev pub Came : CommandData → Result ℕ ServeFault → Server R S T → Server R S T → O → O → Type 0
  Came c result old new before after =
      CameOf (places_data old.places) c result (full_view r s t o old before) (full_view r s t o new after)

  -- HOW ITEMS LEAVE A SERVER that had closed before or not: it stands so, its directories stay, and nothing waits to be shown
  -- where nothing waited
  pub record AfterItems {A : Type 0} (closed : Bool) (result : Result A ServeFault) (old new : Server R S T) (before after : O)
      : Type 0 where
    pub ends : EndsItems closed result (full_view r s t o new after)
    pub places : new.places ≡ old.places
    pub waiting : o.waiting before ≡ [] → o.waiting after ≡ []

  -- HOW A COMMAND LEAVES A SERVER, likewise
  pub record AfterCommand {A : Type 0} (result : Result A ServeFault) (old new : Server R S T) (before after : O) : Type 0 where
    pub ends : Ends result (full_view r s t o new after)
    pub places : new.places ≡ old.places
    pub waiting : o.waiting before ≡ [] → o.waiting after ≡ []
