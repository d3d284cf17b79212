-- A history that the files held is in the tables that are taken.
use Rattle.std.proofs.Common.{◌≡◌, ◌≤◌, sym, subst, inl, inr, arith}
use Rattle.sqlite_disk.specs.declared.Disk.{Ghosts}
use Rattle.sqlite_store.specs.declared.store.FileStore.{FileStore}
use Rattle.sqlite_trees.specs.View.{doubt}
use Rattle.sqlite_wal.specs.Recovery.{Image}
use Rattle.sqlite.specs.State.{State, HasCleanDisk}
use Rattle.sqlite.specs.Held.{Held}
use Rattle.sqlite.specs.Files.{file_state, IsOpened}
use Rattle.sqlite.specs.Start.{FindsIn}
use Rattle.ccr_history.specs.History.{HistoryData, IsHistory, no_history}
use Rattle.ccr_tables.specs.Contents.{Holds}
use Rattle.ccr_tables.specs.Schema.{no_schema}
use Rattle.ccr_store.specs.Rows.{Fits, rows_in}
use Rattle.ccr_store.specs.declared.format.Format.{Format}
use Rattle.ccr_store.specs.StoreData.{StoreData, IsStored}
use Rattle.ccr_look.specs.Holding.{HoldsHistory}
use Rattle.ccr_look.proofs.Finding.{nothing_found, tables_found}

-- a disk that is clean after a call was clean before it
pub was_clean : (old new : State) → doubt old.is_clean ≤ doubt new.is_clean → HasCleanDisk new → HasCleanDisk old
was_clean old new less clean = omega (arith, less, clean)

-- the tables that were adopted have the rows of the history that the files held
pub adopted : {D : Type 0} {g : Ghosts D} (image : Image) (conn : Held (FileStore D g)) (store : StoreData (FileStore D g))
    → (HasCleanDisk (file_state conn) → IsOpened conn) → (HasCleanDisk (file_state conn) → FindsIn image (file_state conn))
    → (HasCleanDisk (file_state store.conn) → (file_state conn).now.schema ≡ no_schema
    → IsStored no_history (file_state store.conn).now × ((file_state store.conn).committed ≡ (file_state store.conn).now))
    → ((format : Format) → (h : HistoryData) → IsHistory h → Fits format h → HasCleanDisk (file_state store.conn)
    → Holds (rows_in format h) (file_state conn).now → IsStored h (file_state store.conn).now)
    → doubt (file_state conn).is_clean ≤ doubt (file_state store.conn).is_clean → HasCleanDisk (file_state store.conn)
    → (h : HistoryData) → HoldsHistory image h → IsStored h (file_state store.conn).now
adopted image conn store opened finds made found less clean h (inl nothing) =
    let was = was_clean (file_state conn) (file_state store.conn) less clean in
    subst (λ (h : HistoryData). IsStored h (file_state store.conn).now) (sym nothing.1)
    (made clean (nothing_found image conn (opened was) (finds was) nothing.0)).0
adopted image conn store opened finds made found less clean h (inr tables) =
    let was = was_clean (file_state conn) (file_state store.conn) less clean in
    let held = tables_found image conn (opened was) (finds was) tables.trees (rows_in tables.format h) tables.found tables.listed tables.rows in
    found tables.format h tables.rules tables.fits clean held
