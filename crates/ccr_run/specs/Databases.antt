-- What the program's storage holds.
use Rattle.std.specs.Prelude.{◌≡◌, ◌≢◌, ◌⊎◌, Bool, List}
use Rattle.sqlite_disk.specs.declared.Disk as disk
use Rattle.sqlite_store.specs.declared.store.FileStore.{FileStore}
use Rattle.sqlite_trees.specs.declared.store.Store.{Ghosts}
use Rattle.sqlite_wal.specs.Recovery.{Image}
use Rattle.sqlite.specs.declared.file.Leftover.{Leftover}
use Rattle.sqlite.specs.Held.{Held, state}
use Rattle.sqlite.specs.Start.{FindsIn}
use Rattle.sqlite.specs.State.{State, HasCleanDisk}
use Rattle.sqlite.specs.Files.{file_state, over_files}
use Rattle.ccr_history.specs.History.{HistoryData}
use Rattle.ccr_history.specs.declared.store_fault.StoreFault.{StoreFault}
use Rattle.ccr_history.specs.declared.tally.Tally.{Tally}
use Rattle.ccr_store.specs.Causes.{IsLetGo, IsUnread}
use Rattle.ccr_store.specs.Crash.{Leaves}
use Rattle.ccr_store.specs.StoreData.{IsKept}
use Rattle.ccr_look.specs.Holding.{HoldsHistory, AreOurs}
use Rattle.ccr_look.specs.Unfound.{IsAtRest, WasTaken}
use Rattle.ccr_run.specs.declared.database.Database.{Database}
use Rattle.ccr_run.specs.declared.opener.Answer.{Answer}
use Rattle.ccr_run.specs.Opening.{HasOpened, HasRefused}
use Rattle.ccr_run.specs.Served.{Coming}

-- WHAT THE STORAGE TELLS OF ITS COMMITS, from the first on
abbrev pub tally : {S : Type 0} → Database S → Tally
tally database = database.tally

module _ {S : Type 0} (g : Ghosts S) where
  -- a database isn't taken, and this is its connection since
  abbrev pub IsLeftUntaken : State → StoreFault → Held S → Type 0
  IsLeftUntaken old fault left = (it : IsLetGo g old fault) × (it.end ≡ left)

  -- no history is loaded, and this is the connection since
  abbrev pub IsLeftUnread : State → StoreFault → Held S → Type 0
  IsLeftUnread old fault left = (it : IsUnread g old fault) × (it.end ≡ left)

  -- NO HISTORY IS FOUND in this database, as it was opened over these files, and its connection is this one since: it isn't taken;
  -- or it is, and no history is loaded
  pub record HasNone (image : Image) (conn : Held S) (fault : StoreFault) (left : Held S) : Type 0 where
    pub opened : HasCleanDisk (state g conn) → IsAtRest (state g conn)
    pub found : HasCleanDisk (state g conn) → FindsIn image (state g conn)
    pub cause : IsLeftUntaken (state g conn) fault left
        ⊎ ((taken : Held S) × WasTaken (state g conn) (state g taken) × IsLeftUnread (state g taken) fault left)

module _ {D : Type 0} {g : disk.Ghosts D} where
  -- WHAT THE STORAGE HOLDS: where the files held a server's history as they were opened, the store keeps the history
  abbrev pub holds : Image → Database (FileStore D g) → HistoryData → Type 0
  holds image database h = AreOurs image → IsKept over_files database.store h

  -- WHAT A CRASH LEAVES of the storage: where the files held a server's history as they were opened, one of these
  -- histories
  abbrev pub leaves : Image → Database (FileStore D g) → List HistoryData → Type 0
  leaves image database hs = AreOurs image → Leaves over_files database.store hs

  -- THE HISTORY THAT A SERVER BEGINS WITH: the one that the files held, while the disk returns what was written. No commit was
  -- asked of the storage before
  pub record BeginsWith (image : Image) (database : Database (FileStore D g)) (h : HistoryData) : Type 0 where
    pub held : HasCleanDisk (file_state database.store.conn) → (was : HistoryData) → HoldsHistory image was → h ≡ was
    pub uncounted : (tally database).commits ≡ 0

  -- how a history that was found comes to a server
  abbrev pub from_history : {C : Type 0} → Image → Coming (Database (FileStore D g)) C
  from_history image = record { begins_with = BeginsWith image; unopened = λ _. ⊥; unfound = λ _ _. ⊥ }

  -- how a database that was opened comes to a server
  abbrev pub from_conn : Image → Held (FileStore D g) → Coming (Database (FileStore D g)) (Held (FileStore D g))
  from_conn image conn = record {
    begins_with = BeginsWith image;
    unopened = λ _. ⊥;
    unfound = λ fault left. HasNone over_files image conn fault left;
  }

  -- how the database in files comes to a server, by what they held and by what the open was answered
  abbrev pub from_files : Image → (Bool → D → Type 0) → Answer (Held (FileStore D g)) (Leftover D g)
      → Coming (Database (FileStore D g)) (Held (FileStore D g))
  from_files image fresh answer = record {
    begins_with = BeginsWith image;
    unopened = HasRefused fresh answer;
    unfound = λ fault left.
        (conn : Held (FileStore D g)) × HasOpened answer conn × HasNone over_files image conn fault left;
  }
