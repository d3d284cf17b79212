-- How the bytes of a file are read.
use Rattle.std.specs.Prelude.{◌≡◌, ◌≢◌, ◌⊎◌, ℕ, List, [], ◌∷◌, ◌++◌, length, All, true, false, Ok, Err}
use Rattle.ccr_look.specs.declared.calls.Trouble.{Trouble}
use Rattle.ccr_look.specs.declared.calls.Trouble.TheVariants.{Interrupted}
use Rattle.ccr_look.specs.declared.fault.CopyFault.{CopyFault}
use Rattle.ccr_look.specs.declared.fault.CopyFault.TheVariants as why
use Rattle.ccr_look.specs.declared.reads.TheConstants.{MOST_READS}
use Rattle.ccr_look.specs.Calls.{CallData, looked, opened, gave}
use Rattle.ccr_look.specs.Answers.{bytes_in, fault_of}

-- a reader that had made the calls before has made those after: the ones between are such
abbrev pub Adds : List CallData → List CallData → (List CallData → Type 0) → Type 0
Adds before after Are = (calls : List CallData) × (after ≡ before ++ calls) × Are calls

-- another read of what was opened at the path follows: this one gave a byte at least, or was interrupted
abbrev pub GoesOn : List ℕ → CallData → Type 0
GoesOn path (looked at found) = ⊥
GoesOn path (opened at answer) = ⊥
GoesOn path (gave at (Ok bytes)) = (at ≡ path) × (bytes ≢ [])
GoesOn path (gave at (Err trouble)) = (at ≡ path) × (trouble ≡ Interrupted)

-- the calls end with this one, and each before it went on
abbrev pub EndsWith : List ℕ → CallData → List CallData → Type 0
EndsWith path last calls = (before : List CallData) × (calls ≡ before ++ last ∷ []) × All (GoesOn path) before

-- the reads of what was opened at a path gave these bytes, whole: each byte that they gave, until one gave none, or there were as many as
-- were asked for
abbrev pub GivesBytes : List ℕ → ℕ → List ℕ → List CallData → Type 0
GivesBytes path most bytes reads =
    (bytes ≡ bytes_in reads)
    × ((All (GoesOn path) reads × (length bytes ≡ most)) ⊎ EndsWith path (gave path (Ok [])) reads)

-- they gave none, and this is told: a read met a trouble; memory for what they gave ran out; or there were as many as are made
abbrev pub GivesNoBytes : List ℕ → ℕ → CopyFault → List CallData → Type 0
GivesNoBytes path most fault reads =
    ((trouble : Trouble) × EndsWith path (gave path (Err trouble)) reads × (trouble ≢ Interrupted) × (fault ≡ fault_of trouble))
    ⊎ ((All (GoesOn path) reads × (fault ≡ why.NoMemory)) ⊎ (All (GoesOn path) reads × (length reads ≡ MOST_READS) × (fault ≡ why.Unread)))

-- THE FIRST BYTES OF A FILE ARE READ, so many at most, whole: nothing is at the path, and there are none; or it is opened, and reads give them
abbrev pub IsRead : List ℕ → ℕ → List ℕ → List CallData → Type 0
IsRead path most bytes calls =
    ((calls ≡ opened path (Ok false) ∷ []) × (bytes ≡ []))
    ⊎ ((reads : List CallData) × (calls ≡ opened path (Ok true) ∷ reads) × GivesBytes path most bytes reads)

-- A FILE ISN'T READ, and this is told: it isn't opened for a trouble, or reads of it give no bytes
abbrev pub FailsToRead : List ℕ → ℕ → CopyFault → List CallData → Type 0
FailsToRead path most fault calls =
    ((trouble : Trouble) × (calls ≡ opened path (Err trouble) ∷ []) × (fault ≡ fault_of trouble))
    ⊎ ((reads : List CallData) × (calls ≡ opened path (Ok true) ∷ reads) × GivesNoBytes path most fault reads)
