-- What a reader may find beside a program that has the database open.
use Rattle.std.specs.Prelude.{◌≡◌, ◌⊎◌, List, [], ◌∷◌, IsTrue}
use Rattle.std.specs.List.{AllByRecursion}
use Rattle.sqlite_disk.specs.declared.Disk.{Ghosts}
use Rattle.sqlite_wal.specs.Files.{seen_image, outcomes}
use Rattle.sqlite_wal.specs.Recovery.{Image}
use Rattle.sqlite_pool.specs.Stored.{RecoversAs}
use Rattle.sqlite_store.specs.FileStore.{files, recovers, state, view}
use Rattle.sqlite_store.specs.declared.store.FileStore.{FileStore}
use Rattle.sqlite.specs.Files.{file_state, over_files}
use Rattle.sqlite.specs.Held.{Held, AreDatabases}
use Rattle.sqlite.specs.State.{HasCleanDisk}
use Rattle.ccr_history.specs.History.{HistoryData, IsHistory}
use Rattle.ccr_history.specs.declared.tally.Tally.{Tally}
use Rattle.ccr_store.specs.Crash.{Leaves}
use Rattle.ccr_look.specs.Holding.{HoldsHistory}

module _ {D : Type 0} {g : Ghosts D} (it : FileStore D g) where
  -- THE BYTES STAND FOR WHAT A CRASH MAY LEAVE at this moment of a store's files: they are recovered as such a pair of files is. Whoever reads a
  -- database that is open elsewhere, in the order of a look, trusts this of the bytes
  abbrev pub AreLeftBy : Image → Type 0
  AreLeftBy image =
      (left : Image) × outcomes g (files it).0 (files it).1 left × RecoversAs (state it).page_size left image

  -- WHAT THE FILES ARE as a run ends at this moment: what reads of them return
  abbrev pub files_now : Image
  files_now = seen_image g (files it).0 (files it).1

  -- what SQLite keeps true of the store of each connection: whatever a crash leaves of it is a database
  pub record IsSoundStore : Type 0 where
    pub numbered : IsTrue (view it).is_numbered
    pub sound : AreDatabases (recovers it)

-- the history is one of these
abbrev pub IsOneOf : List HistoryData → HistoryData → Type 0
IsOneOf [] h = ⊥
IsOneOf (x ∷ xs) h = (h ≡ x) ⊎ IsOneOf xs h

-- WHAT IS FOUND IS WHAT A SERVER LEAVES: where the storage of a connection leaves these histories, while the disk returns what was
-- written, and its files leave the bytes, then the bytes hold one of the histories, and it is the one that is found
abbrev pub IsWhatIsLeft : {D : Type 0} {g : Ghosts D} → Held (FileStore D g) → Image → HistoryData → Type 0
IsWhatIsLeft conn image found =
    (tally : Tally) → (hs : List HistoryData) → AllByRecursion IsHistory hs
    → Leaves over_files (record { conn = conn; tally = tally }) hs → HasCleanDisk (file_state conn) → IsSoundStore conn.store
    → AreLeftBy conn.store image → ∥ IsOneOf hs found × HoldsHistory image found ∥₁
