-- Whether it is asked that a build be aborted, and what is removed once it has ended.
use Rattle.std.specs.Prelude.{◌≡◌, ◌⊎◌, ℕ, List, [], ◌∷◌, ◌++◌, Bool, true, false, Option, Some, None, string_bytes, Result, Ok, Err, if◌then◌else◌}
use Rattle.ccr_history.specs.Text.{Text}
use Rattle.ccr_history.specs.Builds.{BuildData, build_of}
use Rattle.ccr_history.specs.History.{HistoryData}
use Rattle.ccr_history.specs.declared.build.Status.{Status}
use Rattle.ccr_history.specs.declared.build.Status.TheVariants.{Running}
use Rattle.ccr_core.specs.declared.reply.Reply.{Reply}
use Rattle.ccr_core.specs.declared.reply.Reply.TheVariants.{Made, Ends}
use Rattle.ccr_core.specs.Events.{EventData, schedule, trigger}
use Rattle.ccr_core.specs.Replies.{Replied}
use Rattle.ccr_task.specs.declared.fault.ShelfFault.{ShelfFault}
use Rattle.ccr_task.specs.Calls.{CallData, has, remove}
use Rattle.ccr_task.specs.Places.{PlacesData, build_folder, abort_folder}
use Rattle.ccr_serve.specs.declared.leftovers.Leftovers.{Leftovers}

-- it is looked whether the folder at a path is there, which is answered so, and if it is, it is removed, which is answered
-- so
abbrev pub look : Text → Result Bool ShelfFault → Result Unit ShelfFault → List CallData
look folder (Ok true) removed = has folder (Ok true) ∷ remove folder removed ∷ []
look folder (Ok false) removed = has folder (Ok false) ∷ []
look folder (Err fault) removed = has folder (Err fault) ∷ []

-- a folder that asks for something was there, and is removed
abbrev pub is_asked : Result Bool ShelfFault → Result Unit ShelfFault → Bool
is_asked (Ok true) (Ok done) = true
is_asked (Ok true) (Err fault) = false
is_asked (Ok false) removed = false
is_asked (Err fault) removed = false

-- WHETHER IT IS ASKED THAT A BUILD BE ABORTED, by the folder at this path, with the shelf's calls before and after: it was
-- looked, and it is where the folder was there and was removed
abbrev pub AbortIsAsked : Text → Bool → List CallData → List CallData → Type 0
AbortIsAsked folder asked before after =
    (there : Result Bool ShelfFault) × (removed : Result Unit ShelfFault) × (after ≡ before ++ look folder there removed)
    × (asked ≡ is_asked there removed)

-- it was looked for the directory at this path that asks for an abort, and it was removed where it was there
abbrev pub TakesRequest : Text → List CallData → List CallData → Type 0
TakesRequest folder before after = (asked : Bool) × AbortIsAsked folder asked before after

-- it was looked for the folder that asks for an abort, unless it was out of memory before
abbrev pub Looks : Text → List CallData → List CallData → Type 0
Looks folder before after = (after ≡ before) ⊎ TakesRequest folder before after

-- ---- what a build leaves
-- the directories that a job's build of this number may leave: its own, and the one that asks for its abort
pub record AreLeftovers (places : PlacesData) (job : Text) (number : ℕ) (left : Leftovers) : Type 0 where
  pub build : string_bytes left.build ≡ build_folder places job number
  pub request : string_bytes left.request ≡ abort_folder places job number

-- AFTER A BUILD'S END its directory is removed, and then it is looked for the one that asks for its abort, which is removed where
-- it is there; what fails changes nothing else. Of a build that goes on nothing is removed
abbrev pub Clears : PlacesData → Text → ℕ → Reply → List CallData → List CallData → Type 0
Clears places job number (Ends o) before after =
    (removed : Result Unit ShelfFault)
    × TakesRequest (abort_folder places job number) (before ++ remove (build_folder places job number) removed ∷ []) after
Clears places job number reply before after = after ≡ before

-- ---- builds that end in the event that makes them
-- whether a build that stands so has ended
abbrev pub is_ended : Status → Bool
is_ended Running = false
is_ended s = true

-- whether a build has ended, if there is one
abbrev pub has_ended : Option BuildData → Bool
has_ended None = false
has_ended (Some b) = is_ended b.status

-- the number of the job's build that an event with this reply made, if that build has ended in it
abbrev pub ended_at_once : Text → Replied → HistoryData → Option ℕ
ended_at_once job (Ok (Made number)) h = if has_ended (build_of job number h.builds) then Some number else None
ended_at_once job reply h = None

-- of the job's build of this number, which has asked nothing, it is looked for the directory that asks for its abort, which is
-- removed where it is there; it has made no directory of its own. Of no build nothing is looked for
abbrev pub Forgets : PlacesData → Text → Option ℕ → List CallData → List CallData → Type 0
Forgets places job None before after = after ≡ before
Forgets places job (Some number) before after = TakesRequest (abort_folder places job number) before after

-- AFTER AN EVENT that makes a build, that is done if the build has ended in it; after any other event the shelf isn't called
abbrev pub ForgetsAfter : PlacesData → EventData → Replied → HistoryData → List CallData → List CallData → Type 0
ForgetsAfter places (schedule job) reply h before after = Forgets places job (ended_at_once job reply h) before after
ForgetsAfter places (trigger job) reply h before after = Forgets places job (ended_at_once job reply h) before after
ForgetsAfter places e reply h before after = after ≡ before
