-- What is left of a database that is being taken.
use Rattle.std.proofs.Common.{◌≡◌, ◌⊎◌, ◌∙◌, length, refl, sym, ap, subst, inl, inr, arith}
use Rattle.sqlite_disk.specs.declared.Disk.{Ghosts}
use Rattle.sqlite_store.specs.declared.store.FileStore.{FileStore}
use Rattle.sqlite_wal.specs.Recovery.{Image}
use Rattle.sqlite.specs.Files.{file_state, HoldsDatabase, IsEmpty, IsOpened}
use Rattle.sqlite.specs.Held.{Held}
use Rattle.sqlite.specs.Schema.{Schema}
use Rattle.sqlite.specs.Start.{FindsIn}
use Rattle.sqlite.specs.Tree.{Trees}
use Rattle.ccr_history.specs.History.{HistoryData, no_history}
use Rattle.ccr_history.proofs.ChangeLaws.{none_is_history}
use Rattle.ccr_tables.specs.Contents.{Keeps, ListOurs}
use Rattle.ccr_tables.specs.Schema.{no_schema, our_schema}
use Rattle.ccr_store.specs.Causes.{IsBegun}
use Rattle.ccr_store.specs.Rows.{rows_in}
use Rattle.ccr_store.specs.declared.format.Format.TheVariants.{Two}
use Rattle.ccr_store.proofs.RaisedRows.{kept_raised}
use Rattle.ccr_look.specs.Holding.{HasTables, HoldNothing, HoldsHistory}
use Rattle.ccr_look.proofs.Finding.{empty_found, nothing_found, tables_found}

-- the six tables are some
some_tables : our_schema ≡ no_schema → ⊥
some_tables is = let bad : 6 ≡ 0 = ap (λ (s : Schema). length s.tables) is in omega (arith, bad)

module _ {D : Type 0} {g : Ghosts D} (was : Image) (before : Held (FileStore D g)) (opened : IsOpened before) (found : FindsIn was (file_state before))
    (image : Image) (db : Trees) (held : HoldsDatabase image db) where
  -- of files with tables: their rows still, or the same in the second format
  tables_begun : (h : HistoryData) → HasTables was h → (db ≡ (file_state before).committed.trees) ⊎ IsBegun (file_state before) db → HoldsHistory image h
  tables_begun h tables (inl same) =
      let is : tables.trees ≡ db = sym (found.holds tables.trees tables.found) ∙ sym same in
      inr (record {
        format = tables.format;
        trees = db;
        found = held;
        listed = subst ListOurs is tables.listed;
        rules = tables.rules;
        fits = tables.fits;
        rows = subst (Keeps (rows_in tables.format h)) is tables.rows;
      })
  tables_begun h tables (inr (inl made)) =
      let holds = tables_found was before opened found tables.trees (rows_in tables.format h) tables.found tables.listed tables.rows in
      absurd (some_tables (sym holds.schema ∙ made.0))
  tables_begun h tables (inr (inr raised)) =
      let holds = tables_found was before opened found tables.trees (rows_in tables.format h) tables.found tables.listed tables.rows in
      let over = raised.1.1 (rows_in tables.format h) holds in
      inr (record {
        format = Two;
        trees = db;
        found = held;
        listed = over.1;
        rules = tables.rules;
        fits = tt;
        rows = kept_raised tables.format h db over.0;
      })

  -- of files in which nothing was made: nothing still, or the six tables of the empty history
  nothing_begun : HoldNothing was → (db ≡ (file_state before).committed.trees) ⊎ IsBegun (file_state before) db → HoldsHistory image no_history
  nothing_begun nothing (inl same) = inl (inr (db, held, subst IsEmpty (sym same) (empty_found was (file_state before) found nothing)), refl)
  nothing_begun nothing (inr (inl made)) = inr (record {
    format = Two;
    trees = db;
    found = held;
    listed = made.2;
    rules = none_is_history;
    fits = tt;
    rows = made.1;
  })
  nothing_begun nothing (inr (inr raised)) = absurd (raised.0 (nothing_found was before opened found nothing))

  -- of files with a history: the same one
  pub history_begun : (h : HistoryData) → HoldsHistory was h → (db ≡ (file_state before).committed.trees) ⊎ IsBegun (file_state before) db → HoldsHistory image h
  history_begun h (inl (nothing, is)) either = subst (HoldsHistory image) (sym is) (nothing_begun nothing either)
  history_begun h (inr tables) either = tables_begun h tables either
