-- What shelves answer, and the calls that they note.
use Rattle.std.specs.Prelude.{◌≡◌, ◌≢◌, ◌⊎◌, ℕ, List, [], ◌∷◌, Bool, false, Vec, vec_len, nat_le, Result, Ok, Err, IsOk, IsErrAnd, if◌then◌else◌}
use Rattle.std.specs.declared.alloc.Global.{Global}
use Rattle.std.specs.declared.io.ErrorKind.{ErrorKind}
use Rattle.std.specs.declared.io.ErrorKind.TheVariants.{NotFound, OutOfMemory}
use Rattle.ccr_task.specs.declared.shelf.TheConstants.{MOST_FILE}
use Rattle.ccr_task.specs.declared.fault.ShelfFault.{ShelfFault}
use Rattle.ccr_task.specs.declared.fault.ShelfFault.TheVariants.{Failed, TooLong, NoMemory}
use Rattle.ccr_task.specs.declared.folders.Folders.{Folders}
use Rattle.ccr_task.specs.declared.script.ShelfAnswer.{ShelfAnswer}
use Rattle.ccr_task.specs.declared.script.ShelfAnswer.TheVariants.{Done, Read, Fault}
use Rattle.ccr_task.specs.declared.script.ShelfScript.{ShelfScript}
use Rattle.ccr_task.specs.Calls.{CallData}

-- the fault that an error of the system is: out of memory is one of its own, and all else a failure
abbrev pub IsFaultOf : ErrorKind → ShelfFault → Type 0
IsFaultOf kind fault = ((kind ≡ OutOfMemory) × (fault ≡ NoMemory)) ⊎ ((kind ≢ OutOfMemory) × (fault ≡ Failed))

-- a folder that isn't there is removed, and any other error is a fault
abbrev pub RemovesAs : {A : Type 0} → ErrorKind → Result A ShelfFault → Type 0
RemovesAs kind answer = ((kind ≡ NotFound) × IsOk answer) ⊎ ((kind ≢ NotFound) × IsErrAnd answer (IsFaultOf kind))

-- what isn't there is no folder that is seen, and any other error is a fault
abbrev pub SeesAs : ErrorKind → Result Bool ShelfFault → Type 0
SeesAs kind answer = ((kind ≡ NotFound) × (answer ≡ Ok false)) ⊎ ((kind ≢ NotFound) × IsErrAnd answer (IsFaultOf kind))

-- what a call for a folder answers where these answers are left: the first if it can give it, else it fails
abbrev pub folder_answer : List ShelfAnswer → Result Unit ShelfFault
folder_answer [] = Err Failed
folder_answer (Done ∷ rest) = Ok tt
folder_answer (Read bytes ∷ rest) = Err Failed
folder_answer (Fault Failed ∷ rest) = Err Failed
folder_answer (Fault TooLong ∷ rest) = Err Failed
folder_answer (Fault NoMemory ∷ rest) = Err NoMemory

-- what a call for a file answers where these answers are left: the first if it can give it, else it fails
abbrev pub file_answer : List ShelfAnswer → Result (Vec ℕ Global) ShelfFault
file_answer [] = Err Failed
file_answer (Done ∷ rest) = Err Failed
file_answer (Read bytes ∷ rest) = if nat_le (vec_len bytes) MOST_FILE then Ok bytes else Err Failed
file_answer (Fault fault ∷ rest) = Err fault

-- on whether a folder is there, where these answers are left: the first, if it is one for a folder; else that it isn't
abbrev pub sight_answer : List (Result Bool ShelfFault) → Result Bool ShelfFault
sight_answer [] = Ok false
sight_answer (Ok is_there ∷ rest) = Ok is_there
sight_answer (Err Failed ∷ rest) = Err Failed
sight_answer (Err TooLong ∷ rest) = Err Failed
sight_answer (Err NoMemory ∷ rest) = Err NoMemory

-- the answers that a script has left
abbrev pub answers_left : ShelfScript → List ShelfAnswer
answers_left s = s.answers.items

-- the answers that it has left on whether a folder is there
abbrev pub sights_left : ShelfScript → List (Result Bool ShelfFault)
sights_left s = s.sights.items

-- the calls of a script
abbrev pub script_calls : ShelfScript → List CallData
script_calls s = s.noted.calls.list

-- the calls for the machine's folders
abbrev pub folders_calls : {R : Type 0} → Folders R → List CallData
folders_calls f = f.noted.calls.list
