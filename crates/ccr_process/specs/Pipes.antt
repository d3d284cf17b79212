-- The calls on a program's two pipes, and how its input and its output end by them.
use Rattle.std.specs.Prelude.{◌≡◌, ◌≢◌, ◌≤◌, ◌<◌, ◌⊎◌, ◌++◌, ℕ, List, [], ◌∷◌, Bool, true, length, All, take, Option, Result, Ok, Err, Vec, ⊤, if◌then◌else◌}
use Rattle.std.specs.Io.KnownBytes.{Appends, Consumes}
use Rattle.std.specs.declared.alloc.Global.{Global}
use Rattle.std.specs.declared.io.ErrorKind.{ErrorKind}
use Rattle.std.specs.declared.io.ErrorKind.TheVariants.{Interrupted as WasInterrupted, BrokenPipe}
use Rattle.ccr_process.specs.declared.pipes.TheConstants.{MOST_OUTPUT, MOST_CALLS}
use Rattle.ccr_process.specs.declared.pipes.GiveFault.{GiveFault}
use Rattle.ccr_process.specs.declared.pipes.GiveFault.TheVariants.{InputFault}
use Rattle.ccr_process.specs.declared.pipes.TakeFault.{TakeFault}
use Rattle.ccr_process.specs.declared.pipes.TakeFault.TheVariants.{ReadFault, TooLong, NoMemory}
use Rattle.ccr_process.specs.declared.noted.Call.{Call}
use Rattle.ccr_process.specs.declared.noted.Call.TheVariants.{Moved, Troubled}
use Rattle.ccr_process.specs.declared.noted.Trouble.{Trouble}
use Rattle.ccr_process.specs.declared.noted.Trouble.TheVariants.{Interrupted, Closed, Failed}

-- the trouble that an error is: an interrupted call, a closed pipe, or a failure
abbrev pub IsTroubleOf : ErrorKind → Trouble → Type 0
IsTroubleOf kind Interrupted = kind ≡ WasInterrupted
IsTroubleOf kind Closed = kind ≡ BrokenPipe
IsTroubleOf kind Failed = (kind ≢ WasInterrupted) × (kind ≢ BrokenPipe)

-- what one call on a pipe came to: it moved these bytes, or none for this trouble
pub data CallData : Type 0 where
  transferred : List ℕ → CallData
  troubled : Trouble → CallData

-- a call, without where it lies in memory: of those bytes that it was given it moved so many
abbrev pub call_data : Call → CallData
call_data (Moved bytes count) = transferred (take count bytes.now)
call_data (Troubled trouble) = troubled trouble

-- the call that moves bytes of these, from the first on, and answers so
abbrev pub call_of : List ℕ → Result ℕ Trouble → CallData
call_of bytes (Ok count) = transferred (take count bytes)
call_of bytes (Err trouble) = troubled trouble

-- the bytes that a call moved
abbrev pub bytes_of : CallData → List ℕ
bytes_of (transferred bytes) = bytes
bytes_of (troubled trouble) = []

-- the bytes that calls moved, one after the other
abbrev pub all_bytes : List CallData → List ℕ
all_bytes [] = []
all_bytes (call ∷ calls) = bytes_of call ++ all_bytes calls

-- another call follows: this one moved a byte at least, or was interrupted
abbrev pub GoesOn : CallData → Type 0
GoesOn (transferred bytes) = bytes ≢ []
GoesOn (troubled Interrupted) = ⊤
GoesOn (troubled Closed) = ⊥
GoesOn (troubled Failed) = ⊥

-- the calls end with this one, and each before it went on
abbrev pub EndsWith : CallData → List CallData → Type 0
EndsWith last calls = (before : List CallData) × (calls ≡ before ++ last ∷ []) × All GoesOn before

-- what the writes of an input come to: it was written whole or the reader closed its end; a fault where a write failed
-- or took nothing, and after the greatest number of writes
abbrev pub EndsWriting : List ℕ → List CallData → Result Unit GiveFault → Type 0
EndsWriting input calls (Ok done) =
    (All GoesOn calls × (all_bytes calls ≡ input)) ⊎ EndsWith (troubled Closed) calls
EndsWriting input calls (Err InputFault) =
    EndsWith (troubled Failed) calls
    ⊎ (EndsWith (transferred []) calls ⊎ (All GoesOn calls × (length calls ≡ MOST_CALLS)))

-- a pipe was called so, and no other way, from these calls to those
abbrev pub Adds : List CallData → List CallData → List CallData → Type 0
Adds before calls after = after ≡ before ++ calls

-- an input is given by writes of its bytes from the first on, which are the calls that the pipe had; the writer holds them
-- then, and they end so
abbrev pub GivesInput : List CallData → Option (List ℕ) → List ℕ → Result Unit GiveFault → List CallData → Option (List ℕ)
    → Type 0
GivesInput before old input result after new =
    (calls : List CallData) × Adds before calls after × (rest : List ℕ) × (length calls ≤ MOST_CALLS)
    × (input ≡ all_bytes calls ++ rest) × Appends old new (all_bytes calls) × EndsWriting input calls result

-- an output to keep isn't too long yet
abbrev pub IsWithin : Bool → List CallData → Type 0
IsWithin keep calls = keep ≡ true → length (all_bytes calls) ≤ MOST_OUTPUT

-- what the reads of an output come to: all bytes if it is kept, up to the read that gave none; and a fault where a read
-- failed, where more was read than is kept, after the greatest number of reads, or where memory was refused
abbrev pub EndsReading : Bool → List CallData → Result (Vec ℕ Global) TakeFault → Type 0
EndsReading keep calls (Ok output) =
    EndsWith (transferred []) calls × IsWithin keep calls × (output.items ≡ (if keep then all_bytes calls else []))
EndsReading keep calls (Err ReadFault) =
    (EndsWith (troubled Closed) calls ⊎ EndsWith (troubled Failed) calls) × IsWithin keep calls
EndsReading keep calls (Err TooLong) =
    All GoesOn calls
    × (((keep ≡ true) × (MOST_OUTPUT < length (all_bytes calls))) ⊎ (length calls ≡ MOST_CALLS))
EndsReading keep calls (Err NoMemory) = All GoesOn calls × (keep ≡ true) × IsWithin keep calls

-- an output is taken by reads of the bytes that the reader has, from the first on, which are the calls that the pipe had,
-- and which end so
abbrev pub TakesOutput : List CallData → Option (List ℕ) → Bool → Result (Vec ℕ Global) TakeFault → List CallData
    → Option (List ℕ) → Type 0
TakesOutput before old keep result after new =
    (calls : List CallData) × Adds before calls after × (length calls ≤ MOST_CALLS)
    × Consumes old new (all_bytes calls) × EndsReading keep calls result
