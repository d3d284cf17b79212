-- What a call told the core: a run of events.
use Rattle.std.specs.Prelude.{ℕ, List, map, flat_map, option_to_list, Bool}
use Rattle.std.specs.List.{AllByRecursion}
use Rattle.ccr_task.specs.Places.{PlacesData}
use Rattle.ccr_core.specs.Commands.{CommandData}
use Rattle.ccr_core.specs.Events.{EventData}
use Rattle.ccr_core.specs.Kept.{IsEvent}
use Rattle.ccr_core.specs.Replies.{Replied}
use Rattle.ccr_core.specs.State.{State}
use Rattle.ccr_core.specs.Steps as core
use Rattle.ccr_serve.specs.Commanding.{Commanded, Unended}
use Rattle.ccr_serve.specs.Items.{World, Item, Done, Part, Items}
use Rattle.ccr_serve.specs.Runs.{Round}
use Rattle.ccr_serve.specs.Serving.{Serves}

-- an event with its reply
abbrev pub Told : Type 0
Told = EventData × Replied

-- the events of what was done, each with its reply, in order
abbrev pub told : List Done → List Told
told ds = flat_map (λ d. option_to_list d.event) ds

-- THEY ARE A RUN of the core: these events lead from one state to the other, with these replies, and each of them keeps what
-- every event keeps
pub record IsRun (ms : List Told) (old new : State) : Type 0 where
  pub leads : core.Run old (map (λ m. m.0) ms) (map (λ m. m.1) ms) new
  pub events : AllByRecursion IsEvent (map (λ m. m.0) ms)

-- whatever was done of a part, the whole of it or cut short, was a run
abbrev pub AreRuns : Part → Type 0
AreRuns P =
    (old : World) (ds : List Done) (whole : Bool) (new : World) → P old ds whole new → IsRun (told ds) old.core new.core

-- ITEMS ARE RUNS, whichever they are; so are rounds, and commands, also one whose turns were used up
abbrev pub ItemsAreRuns : Type 0
ItemsAreRuns = (places : PlacesData) (is : List Item) → AreRuns (Items (Serves places) is)

abbrev pub RoundsAreRuns : Type 0
RoundsAreRuns = (places : PlacesData) → AreRuns (Round places)

abbrev pub CommandsAreRuns : Type 0
CommandsAreRuns = (places : PlacesData) (c : CommandData) (status : ℕ) → AreRuns (Commanded places c status)

abbrev pub UnendedAreRuns : Type 0
UnendedAreRuns = (places : PlacesData) (c : CommandData) → AreRuns (Unended places c)
