-- What answers of files come to.
use Rattle.std.specs.Prelude.{◌≡◌, ◌≢◌, ◌==◌, ℕ, List, [], ◌∷◌, ◌++◌, Bool, true, false, Option, None, Some, Result, Ok, Err, if◌then◌else◌}
use Rattle.std.specs.declared.io.ErrorKind.{ErrorKind}
use Rattle.std.specs.declared.io.ErrorKind.TheVariants as kind
use Rattle.ccr_look.specs.declared.calls.Trouble.{Trouble}
use Rattle.ccr_look.specs.declared.calls.Trouble.TheVariants.{Interrupted, NoMemory, Other}
use Rattle.ccr_look.specs.declared.calls.Found.{Found}
use Rattle.ccr_look.specs.declared.calls.Found.TheVariants.{File, NoFile, Nothing, Unseen}
use Rattle.ccr_look.specs.declared.fault.CopyFault.{CopyFault}
use Rattle.ccr_look.specs.declared.fault.CopyFault.TheVariants as why
use Rattle.ccr_look.specs.Calls.{CallData, looked, opened, gave}

-- the trouble that an error is: an interrupted call, no memory, or anything else
abbrev pub IsTroubleOf : ErrorKind → Trouble → Type 0
IsTroubleOf k Interrupted = k ≡ kind.Interrupted
IsTroubleOf k NoMemory = k ≡ kind.OutOfMemory
IsTroubleOf k Other = (k ≢ kind.Interrupted) × (k ≢ kind.OutOfMemory)

-- what an open says of a path: whether something is there
abbrev pub is_there : {A : Type 0} → Result (Option A) Trouble → Result Bool Trouble
is_there (Ok (Some file)) = Ok true
is_there (Ok None) = Ok false
is_there (Err trouble) = Err trouble

-- the fault that is told of a trouble
abbrev pub fault_of : Trouble → CopyFault
fault_of Interrupted = why.Unread
fault_of NoMemory = why.NoMemory
fault_of Other = why.Unread

-- the bytes that reads gave, one after the other
abbrev pub bytes_in : List CallData → List ℕ
bytes_in [] = []
bytes_in (looked path found ∷ calls) = bytes_in calls
bytes_in (opened path answer ∷ calls) = bytes_in calls
bytes_in (gave path (Ok bytes) ∷ calls) = bytes ++ bytes_in calls
bytes_in (gave path (Err trouble) ∷ calls) = bytes_in calls

-- what is told of a database by what is found of its log, if anything: it may be a file, or not there
abbrev pub log_fault : Found → Option CopyFault
log_fault (File size) = None
log_fault NoFile = Some why.NotAFile
log_fault Nothing = None
log_fault (Unseen trouble) = Some (fault_of trouble)

-- what is told where its own file isn't there, and its log is so
abbrev pub absence : Found → CopyFault
absence (File size) = why.OnlyLog
absence NoFile = why.NoFile
absence Nothing = why.NoFile
absence (Unseen trouble) = why.NoFile

-- what is told by what is found of its own file, if anything, where its log is so: it has to be a file that isn't empty
abbrev pub file_fault : Found → Found → Option CopyFault
file_fault log (File size) = if size == 0 then Some why.Empty else None
file_fault log NoFile = Some why.NotAFile
file_fault log Nothing = Some (absence log)
file_fault log (Unseen trouble) = Some (fault_of trouble)

-- what is told by what is found of its journal, if anything: it may be empty, or not there
abbrev pub journal_fault : Found → Option CopyFault
journal_fault (File size) = if size == 0 then None else Some why.Journal
journal_fault NoFile = Some why.NotAFile
journal_fault Nothing = None
journal_fault (Unseen trouble) = Some (fault_of trouble)
