-- What a look finds in the bytes that it read.
use Rattle.std.specs.Prelude.{◌≡◌, ◌⊎◌, ℕ, IsTrue}
use Rattle.sqlite_trees.specs.declared.store.Store.{Ghosts}
use Rattle.sqlite_disk.specs.declared.Disk as disk
use Rattle.sqlite_disk.specs.declared.Files.{Files}
use Rattle.sqlite_wal.specs.Recovery.{Image}
use Rattle.sqlite_store.specs.declared.store.FileStore.{FileStore}
use Rattle.sqlite.specs.declared.error.Error.{Error}
use Rattle.sqlite.specs.declared.file.Leftover.{Leftover}
use Rattle.sqlite.specs.Files as sqlite
use Rattle.sqlite.specs.Files.{file_state, FailsToOpenFiles, IsOpened}
use Rattle.sqlite.specs.Held.{Held, state}
use Rattle.sqlite.specs.Opening.{is_open_error}
use Rattle.sqlite.specs.Start.{FindsIn}
use Rattle.ccr_history.specs.History.{HistoryData}
use Rattle.ccr_history.specs.declared.store_fault.StoreFault.{StoreFault}
use Rattle.ccr_history.specs.declared.store_fault.StoreFault.TheVariants.{NoMemory}
use Rattle.ccr_store.specs.Faults.{open_fault_of}
use Rattle.ccr_store.specs.Shown.{ShowsHistory}
use Rattle.ccr_store.specs.declared.format.Format.TheVariants.{Two}
use Rattle.ccr_core.specs.Holding.{CoreData}
use Rattle.ccr_core.specs.Resumed.{IsOver}
use Rattle.ccr_look.specs.declared.copied.Copied.{Copied}
use Rattle.ccr_look.specs.Holding.{HoldsHistory}
use Rattle.ccr_look.specs.Unfound.{IsAtRest, WasTaken, IsUnfound}

-- the bytes that were read, as the two files
abbrev pub image_of : Copied → Image
image_of copied = record { log = copied.log.items; db = copied.db.items }

-- THE DATABASE OF THE BYTES IS OPENED, as an open after a crash finds it that left them, without any supposition on a disk
pub record IsOpenedOver {D : Type 0} {g : disk.Ghosts D} (image : Image) (conn : Held (FileStore D g)) : Type 0 where
  pub opened : IsOpened conn
  pub found : FindsIn image (file_state conn)

-- the database of the bytes isn't opened: SQLite answered so, which opened files that hold them. It says that they are no
-- database, or damaged, only where they hold none, or where a call on the files failed
pub record IsShut {D : Type 0} (g : disk.Ghosts D) (image : Image) (fault : StoreFault) : Type 0 where
  pub error : Error
  pub named : IsTrue (is_open_error error)
  pub fault_is : fault ≡ open_fault_of error
  pub files : Files D
  pub held : sqlite.image_of g files ≡ image
  pub left : Leftover D g
  pub why : FailsToOpenFiles files left error

module _ {D : Type 0} {d : disk.Ghosts D} (g : Ghosts (FileStore D d)) where
  -- A HISTORY IS FOUND IN BYTES: a database was opened that shows what they hold, and taken, and SQLite shows the history's rows in
  -- it; a history that the bytes hold is this one
  pub record IsFoundIn (image : Image) (h : HistoryData) : Type 0 where
    pub conn : Held (FileStore D d)
    pub opened : IsAtRest (state g conn)
    pub finds : FindsIn image (state g conn)
    pub taken : Held (FileStore D d)
    pub was_taken : WasTaken (state g conn) (state g taken)
    pub shows : ShowsHistory Two h (state g taken).now
    pub only : (was : HistoryData) → HoldsHistory image was → was ≡ h

  -- WHAT A LOOK SEES: a core stands over the history that is found in the bytes, as it is
  pub record Sees (image : Image) (budget : ℕ) (core : CoreData) : Type 0 where
    pub history : HistoryData
    pub found : IsFoundIn image history
    pub over : IsOver history budget core

  -- WHY A LOOK SEES NOTHING: out of memory; or SQLite answered so to the open; or no history was found
  abbrev pub SeesNothing : Image → StoreFault → Type 0
  SeesNothing image fault = (fault ≡ NoMemory) ⊎ (IsShut d image fault ⊎ IsUnfound g image fault)
