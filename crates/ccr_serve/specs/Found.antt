-- What a check finds.
use Rattle.std.specs.Prelude.{◌≡◌, ◌<◌, ◌≤◌, ◌==◌, ◌-◌, ℕ, List, [], ◌∷◌, length, slice_get, Bool, true, false, Option, Some, None, Ok, Err}
use Rattle.ccr_history.specs.TextMap.{TextMap}
use Rattle.ccr_history.specs.Tables.{versions_of}
use Rattle.ccr_history.specs.History.{HistoryData}
use Rattle.ccr_pipeline.specs.JobData.{ResourceData}
use Rattle.ccr_problem.specs.ProblemOf.{scope_of}
use Rattle.ccr_protocol.specs.declared.fault.ReplyFault.{ReplyFault}
use Rattle.ccr_protocol.specs.declared.fault.ReplyFault.TheVariants as reply
use Rattle.ccr_protocol.specs.declared.request.TheConstants.{MOST_REQUEST}
use Rattle.ccr_protocol.specs.Replies.{Reading, check_reply, IsReply}
use Rattle.ccr_process.specs.Ends.{EndData, exited, killed, not_started, input_fault, read_fault, output_too_long, no_memory}
use Rattle.ccr_process.specs.Runs.{Pair}
use Rattle.ccr_task.specs.Calls.{CallData, FolderCall, making, Does}
use Rattle.ccr_task.specs.Launching.{check_launch}
use Rattle.ccr_task.specs.Places.{PlacesData}
use Rattle.ccr_task.specs.Starting.{started_check}
use Rattle.ccr_task.specs.declared.fault.ShelfFault.TheVariants.{Failed}
use Rattle.ccr_lines.specs.declared.cause.Cause.{Cause}
use Rattle.ccr_lines.specs.declared.cause.Cause.TheVariants.{RequestTooLong, FolderFault, NotStarted, Killed, InputFault, ReadFault, OutputTooLong, Status, NotJson, WrongKind, VersionNotText}
use Rattle.ccr_serve.specs.declared.found.Found.{Found}
use Rattle.ccr_serve.specs.declared.found.Found.TheVariants.{Versions, Nothing}
use Rattle.ccr_serve.specs.Pairs.{BeginsLaunch}

-- versions, or why there are none
pub data FoundData : Type 0 where
  found : (versions : List TextMap) → FoundData
  nothing : (cause : Cause) → FoundData

-- what was found, without where it lies in memory
abbrev pub found_data : Found → FoundData
found_data (Versions vs) = found vs.items
found_data (Nothing cause) = nothing cause

-- the cause that a reply's fault is; a list of versions is never refused because it lacks one
abbrev pub cause_of : ReplyFault → Cause
cause_of reply.NotJson = NotJson
cause_of reply.VersionNotText = VersionNotText
cause_of fault = WrongKind

-- what a reading of the program's output finds
abbrev pub found_in : Reading (List TextMap) → FoundData
found_in (Ok versions) = found versions
found_in (Err fault) = nothing (cause_of fault)

-- what an output finds: what it is read as (Concourse: implementing a resource type, check)
abbrev pub FindsOutput : List ℕ → FoundData → Type 0
FindsOutput output f = (reading : Reading (List TextMap)) × IsReply check_reply output reading × (f ≡ found_in reading)

-- an exit finds what its output does if the status is 0; another status is a cause
abbrev pub FindsExit : Bool → ℕ → List ℕ → FoundData → Type 0
FindsExit true status output f = FindsOutput output f
FindsExit false status output f = f ≡ nothing (Status status)

-- what the end of a check's program finds; out of memory, nothing is found
abbrev pub FindsBy : EndData → FoundData → Type 0
FindsBy (exited status output) f = FindsExit (status == 0) status output f
FindsBy (killed signal) f = f ≡ nothing Killed
FindsBy not_started f = f ≡ nothing NotStarted
FindsBy input_fault f = f ≡ nothing InputFault
FindsBy read_fault f = f ≡ nothing ReadFault
FindsBy output_too_long f = f ≡ nothing OutputTooLong
FindsBy no_memory f = ⊥

-- the version of a resource with the greatest place, if there is one
abbrev pub newest : ResourceData → HistoryData → Option TextMap
newest r h = slice_get (versions_of (scope_of r) h.tables) (length (versions_of (scope_of r) h.tables) - 1)

-- before the program of a check the folder of all builds is made
abbrev pub check_folders : PlacesData → List FolderCall
check_folders places = making places.work ∷ []

-- what a check of a resource finds that is told a version, with the shelf's calls before and after: by the end of what is
-- started of its one launch, before which the folder of all builds was made; or without a launch, where its request is too long, or else that
-- folder couldn't be made
abbrev pub Finds : PlacesData → ResourceData → Option TextMap → List CallData → List CallData → Option Pair → FoundData
    → Type 0
Finds places r version before after (Some pair) f =
    (length (check_launch places r version).input ≤ MOST_REQUEST) × Does (check_folders places) before (Ok tt) after
    × (pair.0 ≡ started_check places r (check_launch places r version)) × FindsBy pair.1 f
Finds places r version before after None (nothing RequestTooLong) =
    (MOST_REQUEST < length (check_launch places r version).input) × (after ≡ before)
Finds places r version before after None (nothing FolderFault) =
    (length (check_launch places r version).input ≤ MOST_REQUEST)
    × Does (check_folders places) before (Err Failed) after
Finds places r version before after None f = ⊥

-- what is begun of a check of a resource that is told a version: of what is started of its one launch
abbrev pub BeginsFind : PlacesData → ResourceData → Option TextMap → List CallData → List CallData → Option Pair → Type 0
BeginsFind places r version before after lost =
    BeginsLaunch (check_folders places) (λ l. l ≡ started_check places r (check_launch places r version)) before after lost
