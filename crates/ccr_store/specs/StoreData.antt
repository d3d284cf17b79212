-- What a store is to its callers.
use Rattle.std.specs.Prelude.{◌≡◌, IsTrue, refl}
use Rattle.std.specs.Coded.{Coded, code_by, coded×}
use Rattle.sqlite.specs.Effect.{Database}
use Rattle.sqlite_trees.specs.declared.store.Store.{Ghosts}
use Rattle.sqlite.specs.State.{HasCleanDisk}
use Rattle.sqlite.specs.Held.{Held, held_code, state}
use Rattle.ccr_tables.specs.Contents.{Holds}
use Rattle.ccr_history.specs.History.{HistoryData, IsHistory}
use Rattle.ccr_history.specs.declared.tally.Tally.{Tally}
use Rattle.ccr_history.specs.contracts.tally.Tally as tally
use Rattle.ccr_store.specs.Rows.{rows_of}

-- a connection, and the tally of its commits
pub record StoreData (S : Type 0) : Type 0 where
  pub conn : Held S
  pub tally : Tally

-- how the prover stores it
abbrev pub store_code : {S : Type 0} → Coded S → Coded (StoreData S)
store_code {S} store =
    code_by (Held S × Tally) (coded× (held_code store) tally.the_row.coded)
    (λ s. (s.conn, s.tally))
    (λ p. record { conn = p.0; tally = p.1 })
    (λ _. refl)

-- the history is stored: a database with the six tables holds its rows
pub record IsStored (h : HistoryData) (db : Database) : Type 0 where
  pub rules : IsHistory h
  pub rows : Holds (rows_of h) db

-- while the disk returns what was written and the connection is open, the database holds the rows of the history, all of
-- them committed
abbrev pub IsKept : {S : Type 0} → Ghosts S → StoreData S → HistoryData → Type 0
IsKept g store h =
    let db = state g store.conn in
    HasCleanDisk db → IsTrue db.is_open → (db.now ≡ db.committed) × IsHistory h × Holds (rows_of h) db.now
