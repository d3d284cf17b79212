-- The calls of a shelf.
use Rattle.std.specs.Prelude.{◌≡◌, ◌⊎◌, ℕ, List, [], ◌∷◌, ◌++◌, min, Bool, true, false, Vec, Result, Ok, Err}
use Rattle.std.specs.List.{count_by}
use Rattle.std.specs.declared.alloc.Global.{Global}
use Rattle.ccr_pipeline.specs.Tree.{Text}
use Rattle.ccr_task.specs.declared.calls.Call.{Call}
use Rattle.ccr_task.specs.declared.calls.Call.TheVariants.{Make, Read, Remove, Has}
use Rattle.ccr_task.specs.declared.counts.ShelfCounts.{ShelfCounts}
use Rattle.ccr_task.specs.declared.fault.ShelfFault.{ShelfFault}
use Rattle.ccr_task.specs.declared.fault.ShelfFault.TheVariants.{Failed, TooLong, NoMemory}

-- a call: a folder is made, a file is read, a folder is removed, or it is looked whether one is there; with the path that
-- it names, and what it answered
pub data CallData : Type 0 where
  make : (path : Text) (answer : Result Unit ShelfFault) → CallData
  read : (path : Text) (answer : Result (List ℕ) ShelfFault) → CallData
  remove : (path : Text) (answer : Result Unit ShelfFault) → CallData
  has : (path : Text) (answer : Result Bool ShelfFault) → CallData

-- what was read of a file, without where it lies in memory
abbrev pub file_data : Result (Vec ℕ Global) ShelfFault → Result (List ℕ) ShelfFault
file_data (Ok bytes) = Ok bytes.items
file_data (Err fault) = Err fault

-- a call, without where it lies in memory
abbrev pub call_data : Call → CallData
call_data (Make path answer) = make path.now answer.now
call_data (Read path answer) = read path.now (file_data answer.now)
call_data (Remove path answer) = remove path.now answer.now
call_data (Has path answer) = has path.now answer.now

-- ---- what is counted
-- the greatest count, 2^64 - 1
abbrev pub greatest : ℕ
greatest = 18446744073709551615

-- nothing was counted yet
abbrev pub no_counts : ShelfCounts
no_counts = record { failures = 0; seen = 0 }

abbrev pub is_failure : {A : Type 0} → Result A ShelfFault → Bool
is_failure (Err Failed) = true
is_failure answer = false

-- the shelf failed at the call
abbrev pub is_failed : CallData → Bool
is_failed (make path answer) = is_failure answer
is_failed (read path answer) = is_failure answer
is_failed (remove path answer) = is_failure answer
is_failed (has path answer) = is_failure answer

abbrev pub is_there : Result Bool ShelfFault → Bool
is_there (Ok is) = is
is_there (Err fault) = false

-- the call saw a folder
abbrev pub found_folder : CallData → Bool
found_folder (make path answer) = false
found_folder (read path answer) = false
found_folder (remove path answer) = false
found_folder (has path answer) = is_there answer

-- WHAT A SHELF HAS COUNTED of its calls: at how many it failed, and how many saw a folder; the greatest count stays
abbrev pub counts_of : List CallData → ShelfCounts
counts_of calls = record { failures = min (count_by is_failed calls) greatest; seen = min (count_by found_folder calls) greatest }

-- ---- calls in order
-- a call for a folder, which is answered that it is done, or a fault
abbrev pub FolderCall : Type 0
FolderCall = Result Unit ShelfFault → CallData

-- the folder at this path is made
abbrev pub making : Text → FolderCall
making path = λ answer. make path answer

-- the folder at this path is removed
abbrev pub removing : Text → FolderCall
removing path = λ answer. remove path answer

-- the shelf was called so, and answered a fault; or memory was wanted before the call
abbrev pub StopsAt : FolderCall → ShelfFault → List CallData → List CallData → Type 0
StopsAt call Failed before after = after ≡ before ++ call (Err Failed) ∷ []
StopsAt call TooLong before after = ⊥
StopsAt call NoMemory before after = (after ≡ before) ⊎ (after ≡ before ++ call (Err NoMemory) ∷ [])

-- A SHELF DOES these calls for folders in order, with all its calls before and after: each is answered that it is done; or
-- those before one of them were, which wasn't done, and none was made after it
abbrev pub Does : List FolderCall → List CallData → Result Unit ShelfFault → List CallData → Type 0
Does [] before (Ok done) after = after ≡ before
Does [] before (Err fault) after = ⊥
Does (call ∷ calls) before (Ok done) after = Does calls (before ++ call (Ok tt) ∷ []) (Ok done) after
Does (call ∷ calls) before (Err fault) after =
    StopsAt call fault before after ⊎ Does calls (before ++ call (Ok tt) ∷ []) (Err fault) after
