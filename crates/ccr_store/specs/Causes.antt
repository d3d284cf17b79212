-- Why a call of the store fails.
use Rattle.std.specs.Prelude.{◌≡◌, ◌≢◌, ◌⊎◌, List, [], ◌∷◌, map, ⊤}
use Rattle.sqlite_trees.specs.declared.store.Store.{Ghosts}
use Rattle.sqlite.specs.declared.error.Error.{Error}
use Rattle.sqlite.specs.Held.{Held, state}
use Rattle.sqlite.specs.State.{State, HasCleanDisk, Survives}
use Rattle.ccr_history.specs.declared.change.Edit.{Edit}
use Rattle.ccr_history.specs.declared.store_fault.StoreFault.{StoreFault}
use Rattle.ccr_history.specs.declared.store_fault.StoreFault.TheVariants.{NoMemory, NotOurs}
use Rattle.ccr_tables.specs.Answered.{IsAnswered}
use Rattle.ccr_tables.specs.Cause.{cause_of}
use Rattle.sqlite.specs.Tree.{Trees}
use Rattle.ccr_tables.specs.Contents.{Contents, Holds, Keeps, ListOurs, new_contents}
use Rattle.ccr_tables.specs.Created.{IsUnmade, WasRefused}
use Rattle.ccr_tables.specs.Read.{FailedToRead}
use Rattle.ccr_tables.specs.Schema.{no_schema}
use Rattle.ccr_tables.specs.declared.write.Write.{Write}
use Rattle.ccr_tables.specs.declared.write.Write.TheVariants as write
use Rattle.ccr_store.specs.Faults.{fault_of, read_fault_of}
use Rattle.ccr_store.specs.Left.{IsAsItWas}
use Rattle.ccr_store.specs.Rows.{raised}
use Rattle.ccr_store.specs.Shown.{ShowsNone, ShowsFormat, ShowsNoFormat}
use Rattle.ccr_store.specs.declared.format.Format.{Format}
use Rattle.ccr_store.specs.declared.format.Format.TheVariants.{One, Two}
use Rattle.ccr_store.specs.WriteData.{write_data}
use Rattle.ccr_store.specs.Writes.{change_writes}

-- ---- a commit
-- SQLITE ANSWERED SO: an error that is this fault, to one of the writes of these edits or at the end of the transaction
-- with all of them
pub record HasAnswer {S : Type 0} (g : Ghosts S) (es : List Edit) (old : State) (fault : StoreFault) : Type 0 where
  pub writes : List Write
  pub error : Error
  pub writes_are : map write_data writes ≡ change_writes es
  pub fault_is : fault ≡ fault_of (cause_of error)
  pub answered : IsAnswered g writes old error

-- ---- a load
-- out of memory, or rows that no history has, for which SQLite need not fail
abbrev pub ComesOfRows : StoreFault → Type 0
ComesOfRows NoMemory = ⊤
ComesOfRows NotOurs = ⊤
ComesOfRows fault = ⊥

-- SQLITE ANSWERED SO TO A READ: an error that is this fault, to the read of one of the tables
pub record HasReadAnswer {S : Type 0} (g : Ghosts S) (old : State) (fault : StoreFault) : Type 0 where
  pub error : Error
  pub fault_is : fault ≡ read_fault_of (cause_of error)
  pub failed : FailedToRead g old error

-- what a crash leaves of a database in the first format that is written over: the same rows in the second
abbrev pub IsRaised : State → Trees → Type 0
IsRaised old trees =
    ShowsFormat One old.now × ((these : Contents) → Holds these old.now → Keeps (raised these) trees × ListOurs trees)

-- WHAT A CRASH LEAVES of a database that is being taken, beside what it left before: the tables of a new one; or, of one in
-- the first format, the same rows in the second
abbrev pub IsBegun : State → Trees → Type 0
IsBegun old trees =
    ((old.now.schema ≡ no_schema) × Keeps new_contents trees × ListOurs trees)
    ⊎ ((old.now.schema ≢ no_schema) × IsRaised old trees)

module _ {S : Type 0} (g : Ghosts S) (old : State) where
  -- WHY A LOAD FAILS: memory was wanted; or SQLite shows no history; or it answered so to a read
  abbrev pub IsUnloaded : Format → StoreFault → Type 0
  IsUnloaded f fault = (fault ≡ NoMemory) ⊎ (((fault ≡ NotOurs) × ShowsNone f old.now) ⊎ HasReadAnswer g old fault)

  -- A HISTORY ISN'T LOADED, as the connection is when it is let go: there is a cause, and nothing was written
  pub record IsUnread (fault : StoreFault) : Type 0 where
    pub end : Held S
    pub cause : HasCleanDisk (state g end) → IsUnloaded Two fault
    pub left : HasCleanDisk (state g end) → IsAsItWas old (state g end)
    pub crash : Survives old (state g end) (λ _. ⊥)

  -- ---- a database that is taken
  -- a database without tables doesn't get them: SQLite answered so as they were made, or refused one of the statements
  abbrev pub IsUnbegun : StoreFault → Type 0
  IsUnbegun fault =
      ((error : Error) × (fault ≡ fault_of (cause_of error)) × IsUnmade g old error)
      ⊎ ((fault ≡ NotOurs) × WasRefused g old)

  -- other tables aren't taken: SQLite shows that they have the number of no format, or it answered so to the read
  abbrev pub IsForeign : StoreFault → Type 0
  IsForeign fault = ((fault ≡ NotOurs) × ShowsNoFormat old.now) ⊎ HasReadAnswer g old fault

  -- a database of the first format isn't written over: no history was loaded from it; or SQLite answered so to the write
  abbrev pub IsUnraised : StoreFault → Type 0
  IsUnraised fault =
      IsUnloaded One fault
      ⊎ ((error : Error) × (fault ≡ fault_of (cause_of error)) × IsAnswered g (write.Format ∷ []) old error)

  -- WHY A DATABASE ISN'T TAKEN
  abbrev pub IsUntaken : StoreFault → Type 0
  IsUntaken fault =
      ((old.now.schema ≡ no_schema) × IsUnbegun fault) ⊎ ((old.now.schema ≢ no_schema) × (IsForeign fault ⊎ (ShowsFormat One old.now × IsUnraised fault)))

  -- A DATABASE ISN'T TAKEN, as its connection is when it is let go: there is a cause; the tables are as they were; and a
  -- crash leaves what it left before, or what is begun, unless the answer is that it isn't ours
  pub record IsLetGo (fault : StoreFault) : Type 0 where
    pub end : Held S
    pub cause : HasCleanDisk (state g end) → IsUntaken fault
    pub left : HasCleanDisk (state g end) → IsAsItWas old (state g end)
    pub crash : Survives old (state g end) (IsBegun old)
    pub not_ours : fault ≡ NotOurs → Survives old (state g end) (λ _. ⊥)
