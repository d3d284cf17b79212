-- What an open finds.
use Rattle.std.proofs.Common.{◌≡◌, ◌∙◌, sym, ap, subst, [], ◌∷◌, List, inl, inr, refl}
use Rattle.std.proofs.Math.Logic.{∥∥₁_elim}
use Rattle.std.specs.List.{AllZip}
use Rattle.sqlite_disk.specs.declared.Disk.{Ghosts}
use Rattle.sqlite_store.specs.declared.store.FileStore.{FileStore}
use Rattle.sqlite_wal.specs.Recovery.{Image}
use Rattle.sqlite_trees.specs.Objects.{catalog_tree}
use Rattle.sqlite_catalog.specs.Listing.{IsSound, Lists, IsTableRow, IsIndexRow, IsViewRow}
use Rattle.sqlite.specs.Effect.{Database, IsDatabase}
use Rattle.sqlite.specs.Schema.{Schema}
use Rattle.sqlite.specs.Tree.{Trees}
use Rattle.sqlite.specs.Held.{Held}
use Rattle.sqlite.specs.Files.{file_state, HoldsDatabase, IsEmpty, IsOpened}
use Rattle.sqlite.specs.State.{State}
use Rattle.sqlite.specs.Start.{FindsIn}
use Rattle.ccr_tables.specs.Contents.{Contents, Keeps, Holds}
use Rattle.ccr_tables.specs.Schema.{no_schema, our_schema}
use Rattle.ccr_look.specs.Holding.{HoldNothing}
use Rattle.ccr_look.proofs.Blank.{is_adopted}

none_beside : {A B : Type 0} (R : A → B → Type 0) (ys : List B) → AllZip R [] ys → ys ≡ []
none_beside R [] z = refl
none_beside R (y ∷ ys) z = absurd z

-- trees that list nothing have no schema but the empty one
pub unlisted : (schema : Schema) (db : Trees) → db catalog_tree ≡ [] → IsSound schema db → schema ≡ no_schema
unlisted schema db none sound =
    let listed = subst (λ (rows : _). Lists rows schema) none sound.lists in
    let tables = none_beside IsTableRow schema.tables listed.listed.tables in
    let indexes = none_beside (IsIndexRow schema.tables) schema.indexes listed.listed.indexes in
    let views = none_beside IsViewRow schema.views listed.listed.views in
    ap (λ (ts : _). record { tables = ts; indexes = schema.indexes; views = schema.views }) tables
    ∙ (ap (λ (is : _). record { tables = []; indexes = is; views = schema.views }) indexes
    ∙ ap (λ (vs : _). record { tables = []; indexes = []; views = vs }) views)

-- an open of files in which nothing was made finds nothing
pub empty_found : (image : Image) (state : State) → FindsIn image state → HoldNothing image → IsEmpty state.committed.trees
empty_found image state found (inl blank) = elim found.reads [
  | inl adopted ↦ absurd (∥∥₁_elim adopted.4 (λ (a b : ⊥). absurd a) (λ ours. is_adopted adopted.0 image adopted.1 adopted.3 ours.file.sound blank))
  | inr nothing ↦ nothing.1
]
empty_found image state found (inr (trees, held, empty)) = subst IsEmpty (sym (found.holds trees held)) empty

module _ {D : Type 0} {g : Ghosts D} (image : Image) (conn : Held (FileStore D g)) (opened : IsOpened conn) (found : FindsIn image (file_state conn)) where
  sound : IsDatabase (file_state conn).committed
  sound = (opened.1 opened.0.is_open).1

  -- files in which nothing was made have no tables
  pub nothing_found : HoldNothing image → (file_state conn).now.schema ≡ no_schema
  nothing_found nothing = ap (λ (db : Database). db.schema) opened.0.clean ∙ unlisted _ _ (empty_found image (file_state conn) found nothing).1 sound

  -- a file of the six tables holds what they hold
  pub tables_found : (trees : Trees) (these : Contents) → HoldsDatabase image trees → ((schema : Schema) → IsSound schema trees → schema ≡ our_schema)
      → Keeps these trees → Holds these (file_state conn).now
  tables_found trees these held listed rows =
      let same = found.holds trees held in
      subst (Holds these) (sym opened.0.clean) (record {
        schema = listed _ (subst (λ (db : Trees). IsSound (file_state conn).committed.schema db) same sound);
        rows = subst (Keeps these) (sym same) rows;
      })
