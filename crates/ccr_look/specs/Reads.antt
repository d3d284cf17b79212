-- In which order a database is read, and what is compared.
use Rattle.std.specs.Prelude.{◌≡◌, ◌≢◌, ◌⊎◌, ◌<◌, ℕ, zero, suc, List, [], ◌∷◌, ◌++◌, take, codes, string_bytes, Option, None, Some, Result, Ok, Err}
use Rattle.ccr_look.specs.declared.calls.Found.{Found}
use Rattle.ccr_look.specs.declared.copied.Copied.{Copied}
use Rattle.ccr_look.specs.declared.copied.Names.{Names}
use Rattle.ccr_look.specs.declared.copied.TheConstants.{HEADER, ALL, MOST_TRIES}
use Rattle.ccr_look.specs.declared.fault.CopyFault.{CopyFault}
use Rattle.ccr_look.specs.declared.fault.CopyFault.TheVariants as why
use Rattle.ccr_look.specs.Calls.{CallData, looked}
use Rattle.ccr_look.specs.Answers.{log_fault, file_fault, journal_fault}
use Rattle.ccr_look.specs.Parts.{IsRead, FailsToRead}

-- where the files of a database are
pub record Place : Type 0 where
  pub db : List ℕ
  pub log : List ℕ
  pub journal : List ℕ

-- the log of a database lies beside it, under this name
abbrev pub log_of : List ℕ → List ℕ
log_of path = path ++ codes "-wal"

-- a database is at its path, and its log and its journal lie beside it
abbrev pub place_of : List ℕ → Place
place_of path = record { db = path; log = log_of path; journal = path ++ codes "-journal" }

-- the place that these names name
abbrev pub place_named : Names → Place
place_named names = record { db = string_bytes names.db; log = string_bytes names.log; journal = string_bytes names.journal }

-- A DATABASE IS THERE that may be read: it was looked at its log, its file and its journal, and nothing speaks against it
abbrev pub IsThere : Place → List CallData → Type 0
IsThere p calls =
    (log file journal : Found) × (calls ≡ looked p.log log ∷ looked p.db file ∷ looked p.journal journal ∷ [])
    × (log_fault log ≡ None) × (file_fault log file ≡ None) × (journal_fault journal ≡ None)

-- NONE IS THERE that may be read, and this is told: what was found last speaks against it, and nothing that was found before
abbrev pub IsNotThere : Place → CopyFault → List CallData → Type 0
IsNotThere p fault calls =
    ((log : Found) × (calls ≡ looked p.log log ∷ []) × (log_fault log ≡ Some fault))
    ⊎ (((log file : Found) × (calls ≡ looked p.log log ∷ looked p.db file ∷ []) × (log_fault log ≡ None) × (file_fault log file ≡ Some fault))
    ⊎ ((log file journal : Found) × (calls ≡ looked p.log log ∷ looked p.db file ∷ looked p.journal journal ∷ [])
    × (log_fault log ≡ None) × (file_fault log file ≡ None) × (journal_fault journal ≡ Some fault)))

-- A DATABASE IS READ IN THIS ORDER: the header of its log, its own file, its log, and the header of the log that is there then; of each so
-- many bytes at most
abbrev pub parts_of : Place → List (List ℕ × ℕ)
parts_of p = (p.log, HEADER) ∷ (p.db, ALL) ∷ (p.log, ALL) ∷ (p.log, HEADER) ∷ []

-- parts were read one after the other, by these calls and no others, and gave these bytes
abbrev pub AreRead : List (List ℕ × ℕ) → List (List ℕ) → List CallData → Type 0
AreRead [] [] calls = calls ≡ []
AreRead [] (bytes ∷ texts) calls = ⊥
AreRead (part ∷ parts) [] calls = ⊥
AreRead (part ∷ parts) (bytes ∷ texts) calls =
    (first rest : List CallData) × (calls ≡ first ++ rest) × IsRead part.0 part.1 bytes first × AreRead parts texts rest

-- one of the parts isn't read, and this is told; those before it were, and none behind it
abbrev pub IsCutAt : List (List ℕ × ℕ) → CopyFault → List CallData → Type 0
IsCutAt [] fault calls = ⊥
IsCutAt (part ∷ parts) fault calls =
    FailsToRead part.0 part.1 fault calls
    ⊎ ((first rest : List CallData) × (bytes : List ℕ) × (calls ≡ first ++ rest) × IsRead part.0 part.1 bytes first × IsCutAt parts fault rest)

-- A TRY: the database is there, and then the four parts were read, and gave these bytes
abbrev pub IsTry : Place → List ℕ → List ℕ → List ℕ → List ℕ → List CallData → Type 0
IsTry p before db log after calls =
    (first rest : List CallData) × (calls ≡ first ++ rest) × IsThere p first
    × AreRead (parts_of p) (before ∷ db ∷ log ∷ after ∷ []) rest

-- what was read belongs together: the header of the log is one throughout, and the log begins with it
abbrev pub BelongTogether : List ℕ → List ℕ → List ℕ → Type 0
BelongTogether before log after = (after ≡ before) × (take HEADER log ≡ before)

-- what comes of the bytes that a try read: they are the copy, whole, where they belong together and the file isn't empty; it is empty; or
-- they don't belong together, and there is none
abbrev pub Gives : List ℕ → List ℕ → List ℕ → List ℕ → Result (Option Copied) CopyFault → Type 0
Gives before db log after (Ok (Some copied)) =
    BelongTogether before log after × (db ≢ []) × (copied.db.items ≡ db) × (copied.log.items ≡ log)
Gives before db log after (Ok None) = ¬ BelongTogether before log after
Gives before db log after (Err fault) = BelongTogether before log after × (db ≡ []) × (fault ≡ why.Empty)

-- a try read the four parts, and this comes of it
abbrev pub IsDone : Place → Result (Option Copied) CopyFault → List CallData → Type 0
IsDone p result calls = (before db log after : List ℕ) × IsTry p before db log after calls × Gives before db log after result

-- a try didn't read them, and this is told: none is there, or one of the parts isn't read
abbrev pub IsStopped : Place → CopyFault → List CallData → Type 0
IsStopped p fault calls =
    IsNotThere p fault calls
    ⊎ ((first rest : List CallData) × (calls ≡ first ++ rest) × IsThere p first × IsCutAt (parts_of p) fault rest)

-- WHAT COMES OF A TRY: of the bytes that it read, or because it didn't read them
abbrev pub CameOf : Place → Result (Option Copied) CopyFault → List CallData → Type 0
CameOf p (Ok copied) calls = IsDone p (Ok copied) calls
CameOf p (Err fault) calls = IsDone p (Err fault) calls ⊎ IsStopped p fault calls

-- these calls are so many tries, each in vain
abbrev pub AreVain : Place → ℕ → List CallData → Type 0
AreVain p zero calls = calls ≡ []
AreVain p (suc n) calls = (before last : List CallData) × (calls ≡ before ++ last) × AreVain p n before × IsDone p (Ok None) last

-- nothing was called, and this is told: there is no memory for the names
abbrev pub IsUnread : CopyFault → List CallData → Type 0
IsUnread fault calls = (calls ≡ []) × (fault ≡ why.NoMemory)

-- WHAT COMES OF A COPY: fewer tries than the most were in vain, and it is what comes of the next one; as many were, and it is given up; or
-- nothing is read
abbrev pub Copies : Place → Result Copied CopyFault → List CallData → Type 0
Copies p (Ok copied) calls =
    (n : ℕ) × (vain last : List CallData) × (calls ≡ vain ++ last) × (n < MOST_TRIES) × AreVain p n vain × CameOf p (Ok (Some copied)) last
Copies p (Err fault) calls =
    ((n : ℕ) × (vain last : List CallData) × (calls ≡ vain ++ last) × (n < MOST_TRIES) × AreVain p n vain × CameOf p (Err fault) last)
    ⊎ ((AreVain p MOST_TRIES calls × (fault ≡ why.Restless)) ⊎ IsUnread fault calls)

-- A DATABASE IS READ AS A LOOK READS: the last calls of its reader are those of a try, which gave these bytes
abbrev pub IsReadInOrder : Copied → Type 0
IsReadInOrder copied =
    (earlier last : List CallData) × (copied.calls.list ≡ earlier ++ last) × CameOf (place_of copied.path.now) (Ok (Some copied)) last
