-- Lines that are printed as they are handed out, and what is told beside them.
use Rattle.std.specs.Prelude.{◌≡◌, ◌≢◌, ◌⊎◌, ℕ, List, [], ◌∷◌, ◌++◌, flat_map, Bool, true, false, Option}
use Rattle.std.specs.Io.KnownBytes.{Appends}
use Rattle.ccr_history.specs.Text.{Text}
use Rattle.ccr_lines.specs.Calls.{CallData, all_bytes, IsGiven, IsAnswered, HasBegun}
use Rattle.ccr_lines.specs.declared.log.Entry.{Entry}
use Rattle.ccr_lines.specs.declared.log.Entry.TheVariants.{Shown, Told}

-- ---- what was shown and told
-- bytes that were handed out to be shown, or a line that was told beside them
pub data EntryData : Type 0 where
  shown : List ℕ → EntryData
  told : Text → EntryData

-- an entry, without where it lies in memory
abbrev pub entry_data : Entry → EntryData
entry_data (Shown bytes) = shown bytes.now
entry_data (Told line) = told line.now

-- all that was handed out, in order
abbrev pub all_shown : List EntryData → List ℕ
all_shown [] = []
all_shown (shown bytes ∷ es) = bytes ++ all_shown es
all_shown (told line ∷ es) = all_shown es

-- the lines that were told, in order
abbrev pub all_told : List EntryData → List Text
all_told [] = []
all_told (shown bytes ∷ es) = all_told es
all_told (told line ∷ es) = line ∷ all_told es

-- these lines, each with its line feed
abbrev pub told_lines : List Text → List ℕ
told_lines lines = flat_map (λ line. line ++ 10 ∷ []) lines

-- ---- writers
-- whether a call of a writer answered an error, what the writer held at first and holds now, where that is known, and the
-- calls that it got
pub record ChannelData : Type 0 where
  pub failed : Bool
  pub before : Option (List ℕ)
  pub holds : Option (List ℕ)
  pub calls : List CallData

-- unless a write failed, the writer has got these bytes and nothing else
abbrev pub IsWhole : Bool → Option (List ℕ) → Option (List ℕ) → List ℕ → Type 0
IsWhole failed before holds bytes = failed ≡ false → Appends before holds bytes

-- one writer has got what was shown so, and the other what was told
abbrev pub AreWhole : List EntryData → (List ℕ → Type 0) → (List ℕ → Type 0) → Type 0
AreWhole log IsShown IsTold = IsShown (all_shown log) × IsTold (told_lines (all_told log))

-- WHAT THE CALLS OF THE TWO WRITERS ARE: a failure is told exactly where a call answered an error; the one was given what was
-- shown, from the first on, up to such a call; the other was given all that was told, whatever its calls answered
pub record AreCalled (log : List EntryData) (failed unsaid : Bool) (calls asides : List CallData) : Type 0 where
  pub answered : IsAnswered failed calls
  pub begun : HasBegun (all_shown log) calls
  pub answered_beside : IsAnswered unsaid asides
  pub told_all : all_bytes asides ≡ told_lines (all_told log)

-- a writer got these bytes and nothing else, unless one of its calls answered an error by now; and it got the calls that
-- give it these bytes, and no other, whatever it answered
pub record Got (bytes : List ℕ) (old new : ChannelData) : Type 0 where
  pub before : new.before ≡ old.before
  pub bytes_too : new.failed ≡ false → (old.failed ≡ false) × Appends old.holds new.holds bytes
  pub calls : IsGiven bytes old.calls new.calls
  pub answered : IsAnswered new.failed new.calls

-- ---- lines
-- what was handed out, what waits for that, for how many bytes there is room, what was told beside it, whether a write of
-- lines failed, what the writer held at first and holds now, where that is known, the calls that it got, and the writer of
-- what is told
pub record PrintedData : Type 0 where
  pub shown : List ℕ
  pub waiting : List ℕ
  pub room : ℕ
  pub notes : List Text
  pub failed : Bool
  pub before : Option (List ℕ)
  pub holds : Option (List ℕ)
  pub calls : List CallData
  pub errors : ChannelData

-- nothing was written of lines
pub record SameOut (old new : PrintedData) : Type 0 where
  pub failed : new.failed ≡ old.failed
  pub before : new.before ≡ old.before
  pub holds : new.holds ≡ old.holds
  pub calls : new.calls ≡ old.calls

-- WHAT HANDING OUT CALLS: what waits is given to the writer, and no other call is made; none at all where nothing waits, or
-- where a call answered an error before
pub record HandsOut (old new : PrintedData) : Type 0 where
  pub still : (old.waiting ≡ []) ⊎ (old.failed ≡ true) → SameOut old new
  pub given : old.waiting ≢ [] → old.failed ≡ false → IsGiven old.waiting old.calls new.calls
  pub answered : IsAnswered new.failed new.calls

-- WHAT TELLING A LINE WRITES: the line is told, and its writer gets it with its line feed and nothing else; or, out of memory, it
-- isn't told, and its writer gets nothing
abbrev pub IsSaid : Text → PrintedData → PrintedData → Type 0
IsSaid line old new =
    ((new.notes ≡ old.notes ++ line ∷ []) × Got (line ++ 10 ∷ []) old.errors new.errors)
    ⊎ ((new.notes ≡ old.notes) × (new.errors ≡ old.errors))
