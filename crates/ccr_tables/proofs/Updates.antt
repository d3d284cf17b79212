-- What an UPDATE, an upsert and a DELETE do.
use Rattle.std.proofs.Common.{◌≡◌, inl, inr, ℕ, ◌/◌, ℤ, List, [], ◌∷◌, ◌++◌, length, map, filter, drop, slice_get, Bool, not, Option, Some, None, Ok, refl, sym, ap, subst, ◌∙◌, IsPermutation}
use Rattle.std.specs.List.{AllByRecursion}
use Rattle.std.proofs.lemmas.List.Sorted.{IsPermutation-refl, IsPermutation-trans, IsPermutation-append, IsPermutation-map}
use Rattle.sqlite.specs.declared.types.Value.TheVariants.{Null}
use Rattle.sqlite.specs.Order.{Row}
use Rattle.sqlite.specs.Query.{Query, IsAnswer}
use Rattle.sqlite.specs.Program.{overlay}
use Rattle.sqlite.specs.Table.{Table}
use Rattle.sqlite.specs.Tree.{Trees, rowid, has_rowid}
use Rattle.sqlite.specs.Source.TheVariants.{Values}
use Rattle.sqlite.specs.Command.TheVariants.{Update, InsertOr, Delete}
use Rattle.sqlite_schema.specs.declared.command.Conflict.TheVariants.{Abort}
use Rattle.sqlite.specs.Edit.{Edit, edit_of, edited, left_by, without_all, with_rowid, Applies}
use Rattle.sqlite.specs.Cast.{cast_row}
use Rattle.sqlite.specs.Rowids.TheVariants.{Given, Chosen}
use Rattle.sqlite_rules.specs.Calls.{ids_of}
use Rattle.sqlite_rules.specs.Keys.{AreConflicts}
use Rattle.sqlite_rules.specs.declared.error.Refusal.{Refusal}
use Rattle.sqlite_schema.specs.declared.schema.Keys.TheVariants.{Enforced}
use Rattle.sqlite_trees.specs.declared.store.Shape.TheVariants.{Table as Shaped}
use Rattle.sqlite_trees.specs.View.{IsShaped}
use Rattle.sqlite.specs.Does.{Tally, Does}
use Rattle.sqlite.specs.Rows.{Written, Task, stamped, shown, Updates, Upserts, Judged, Meets, Puts, TriesEach, count_of, nothing}
use Rattle.sqlite.specs.Listing.{understood}
use Rattle.sqlite.specs.Effect.{Database, value_rows}
use Rattle.sqlite.specs.State.{State, mode_of, Executes}
use Rattle.sqlite.proofs.Callers.{IsPlain, command_of, statement_of, runs_as, one_step}
use Rattle.sqlite_keyed.proofs.ListLemmas.{map-map}
use Rattle.ccr_tables.specs.Schema.{our_schema}
use Rattle.ccr_tables.proofs.Inserts.{went, same_value, uncounted}
use Rattle.ccr_tables.proofs.Edits.{map_agree, put_all_free, put_all_shaped, without_all_shaped, numbered_given, left_answered}

-- the rows that the query shows are put in place of those whose numbers it shows first
abbrev pub Replaces : Table → Query → Row → Trees → Trees → Type 0
Replaces table q params db next =
    (rows : List Row) × IsAnswer q (overlay db []) params rows × Applies our_schema Enforced db (edit_of db (uncounted table) (ids_of rows) Given 1 rows) next

abbrev task_of : State → Table → Row → Task
task_of old table params = record { limit = old.step_limit; keys = Enforced; schema = our_schema; table = uncounted table; params = params }

replaced : (old : State) (table : Table) (params given : Row) (q : Query) (db : Trees) (w : Written) → Updates (task_of old table params) (record { lets = []; body = q }) given db (Ok w) → Replaces table q given db w.trees
replaced old table params given q db w h =
    let asked = went h in
    let written = went asked.2 in (
      asked.0,
      asked.1.answer Null,
      subst (λ t. Applies our_schema Enforced db (edit_of db (uncounted table) (ids_of asked.0) Given 1 asked.0) t) (sym (ap (λ (it : Written). it.trees) (same_value written.2)))
          (one_step our_schema _ db written.0 (edit_of db (uncounted table) (ids_of asked.0) Given 1 asked.0) refl written.1),
    )

put_in : (old : State) (table : Table) (params new : Row) (db : Trees) (w : Written) → Puts (task_of old table params) new db (Ok w) → Applies our_schema Enforced db (edit_of db (uncounted table) [] Given 0 (new ∷ [])) w.trees
put_in old table params new db w h =
    let written = went h in
    subst (λ t. Applies our_schema Enforced db (edit_of db (uncounted table) [] Given 0 (new ∷ [])) t) (sym (ap (λ (it : Written). it.trees) (same_value written.2)))
    (one_step our_schema _ db written.0 (edit_of db (uncounted table) [] Given 0 (new ∷ [])) refl written.1)

module _ (text : List ℕ) (at : ℕ) (table : Table) (q : Query)
    (is : command_of (understood our_schema text) ≡ Update at (record { lets = []; body = q })) (plain : IsPlain (understood our_schema text))
    (place : slice_get our_schema.tables at ≡ Some (uncounted table)) where
  pub updates : (old new : State) (params : Row) (count : ℕ) → old.now.schema ≡ our_schema → Executes text params old new (Ok count)
      → (new.now.schema ≡ our_schema) × Replaces table q params old.now.trees new.now.trees
  updates old new params count has h =
      let command = Update at (record { lets = []; body = q }) in
      let w = runs_as text params old new our_schema has command is plain count h in
      let said = statement_of text (understood our_schema text) in
      let done = went (rw place at (subst (λ s. Does old.step_limit (mode_of old) params (record old.now { schema = s }) said None command (Ok (w.tally, new.now))) has w.changed)) in
      let now = ap (λ (p : Tally × Database). p.1) (same_value (went (went done.2).2).2) in
      (ap (λ (d : Database). d.schema) now, subst (Replaces table q params old.now.trees) (sym (ap (λ (d : Database). d.trees) now)) (replaced old table params params q old.now.trees done.0 done.1))

module _ (text : List ℕ) (at : ℕ) (table : Table) (q : Query)
    (is : command_of (understood our_schema text) ≡ Delete at (record { lets = []; body = q })) (plain : IsPlain (understood our_schema text))
    (place : slice_get our_schema.tables at ≡ Some (uncounted table)) where
  pub deletes : (old new : State) (params : Row) (count : ℕ) → old.now.schema ≡ our_schema → Executes text params old new (Ok count)
      → (new.now.schema ≡ our_schema) × (rows : List Row) × IsAnswer q (overlay old.now.trees []) params rows × Applies our_schema Enforced old.now.trees (edit_of old.now.trees (uncounted table) (ids_of rows) Given 0 []) new.now.trees
  deletes old new params count has h =
      let db = old.now.trees in
      let command = Delete at (record { lets = []; body = q }) in
      let w = runs_as text params old new our_schema has command is plain count h in
      let said = statement_of text (understood our_schema text) in
      let done = went (rw place at (subst (λ s. Does old.step_limit (mode_of old) params (record old.now { schema = s }) said None command (Ok (w.tally, new.now))) has w.changed)) in
      let now = ap (λ (p : Tally × Database). p.1) (same_value (went (went done.2).2).2) in
      let asked = went done.1 in
      let written = went asked.2 in
      let wrote = one_step our_schema _ db written.0 (edit_of db (uncounted table) (ids_of asked.0) Given 0 []) refl written.1 in
      let trees = ap (λ (it : Written). it.trees) (same_value written.2) in
      (ap (λ (d : Database). d.schema) now, asked.0, asked.1.answer Null, subst (λ t. Applies our_schema Enforced db (edit_of db (uncounted table) (ids_of asked.0) Given 0 []) t) (sym (ap (λ (d : Database). d.trees) now ∙ trees)) wrote)

-- the row comes in where no row has its key; else the query says what the row there becomes
abbrev pub PutsOr : Table → Query → Row → Trees → Trees → Row → List Row → Type 0
PutsOr table q params db next new [] = Applies our_schema Enforced db (edit_of db (uncounted table) [] Given 0 (new ∷ [])) next
PutsOr table q params db next new (there ∷ more) = Replaces table q (params ++ rowid there ∷ shown (uncounted table) new) db next

module _ (table : Table) (q : Query) (target : Option (List ℕ)) (old : State) (params new : Row) (db : Trees) (w : Written) where
  abbrev clause : Rattle.sqlite_schema.specs.declared.command.Upsert.Upsert
  clause = record { target = target; update = Some (record { lets = []; body = q }) }

  met : (found : List Row) → Meets (task_of old table params) (Upserts (task_of old table params) Abort new db []) new db clause found (Ok w) → PutsOr table q params db w.trees new found
  met [] h = cleared h.0 h.2
    where
      cleared : (all : List Row) → Rattle.sqlite.specs.Rows.Clears (task_of old table params) Abort new db all (Ok w) → PutsOr table q params db w.trees new []
      cleared [] k = put_in old table params new db w k
      cleared (x ∷ xs) k = put_in old table params new db w k
  met (there ∷ more) h = replaced old table params _ q db w h

  judged : (verdict : Option Refusal) → Judged (task_of old table params) Abort (clause ∷ []) new db verdict (Ok w)
      → (found : List Row) × AreConflicts target our_schema.indexes (uncounted table) (db table.tree) new found × PutsOr table q params db w.trees new found
  judged None h = (h.0, h.1, met h.0 h.2)
  judged (Some why) h = absurd (let e = h in cc)

module _ (text : List ℕ) (at : ℕ) (table : Table) (terms : List Rattle.sqlite.specs.Term.Term) (width : ℕ) (target : Option (List ℕ)) (q : Query)
    (is : command_of (understood our_schema text) ≡ InsertOr at Abort (Values terms width) ((record { target = target; update = Some (record { lets = []; body = q }) }) ∷ []))
    (plain : IsPlain (understood our_schema text)) (place : slice_get our_schema.tables at ≡ Some (uncounted table)) where
  pub upserts : (old new : State) (params source : Row) (count : ℕ) → old.now.schema ≡ our_schema → value_rows (stamped table params) width (length terms / width) terms ≡ source ∷ []
      → Executes text params old new (Ok count)
      → let row = with_rowid Chosen (old.now.trees table.tree) (cast_row (uncounted table) source) in
      (new.now.schema ≡ our_schema) × ((found : List Row) × AreConflicts target our_schema.indexes (uncounted table) (old.now.trees table.tree) row found × PutsOr table q params old.now.trees new.now.trees row found)
  upserts old new params source count has gives h =
      let db = old.now.trees in
      let command = InsertOr at Abort (Values terms width) ((record { target = target; update = Some (record { lets = []; body = q }) }) ∷ []) in
      let w = runs_as text params old new our_schema has command is plain count h in
      let said = statement_of text (understood our_schema text) in
      let done = went (rw place at (subst (λ s. Does old.step_limit (mode_of old) params (record old.now { schema = s }) said None command (Ok (w.tally, new.now))) has w.changed)) in
      let now = ap (λ (p : Tally × Database). p.1) (same_value (went (went done.2).2).2) in
      let given = went done.1 in
      let tried = went (went given.2).2 in
      let counted = went tried.2 in
      let row = with_rowid Chosen (db table.tree) (cast_row (uncounted table) source) in
      let source_is : given.0 ≡ source ∷ [] = given.1.1 ∙ gives in
      let each = went (subst (λ all. TriesEach (task_of old table params) Abort (clause table q target old params row db done.0 ∷ []) all (count_of (went given.2).0) (nothing db) (Ok tried.0)) source_is tried.1) in
      let one = each.0 in
      let got : (found : List Row) × AreConflicts target our_schema.indexes (uncounted table) (db table.tree) row found × PutsOr table q params db one.trees row found = elim each.1 [
        | inl bad ↦ absurd (let e = bad.1 in cc)
        | inr fine ↦ judged table q target old params row db one fine.0 fine.2
      ] in
      let trees : new.now.trees ≡ one.trees = ap (λ (d : Database). d.trees) now ∙ ap (λ (it : Written). it.trees) (same_value counted.2) ∙ same_value counted.1 ∙ ap (λ (p : Written × ℤ). p.0.trees) (same_value each.2) in
      (ap (λ (d : Database). d.schema) now, subst (λ t. (found : List Row) × AreConflicts target our_schema.indexes (uncounted table) (db table.tree) row found × PutsOr table q params db t row found) (sym trees) got)

-- ---- what is left

-- rows that pass a test were answered, and each is put back as something else under its own number
pub put_back : (table : Table) (t : Row → Bool) (g f : Row → Row) (db next : Trees) (rows : List Row) → IsShaped Shaped (db table.tree) → ((r : Row) → rowid (g r) ≡ rowid r)
    → AllByRecursion (λ r. cast_row (uncounted table) (drop 1 (g r)) ≡ f r) (filter t (db table.tree)) → IsPermutation (map g (filter t (db table.tree))) rows
    → Applies our_schema Enforced db (edit_of db (uncounted table) (ids_of rows) Given 1 rows) next
    → IsPermutation (map f (filter t (db table.tree)) ++ filter (λ r. not (t r)) (db table.tree)) (next table.tree) × IsShaped Shaped (next table.tree)
put_back table t g f db next rows shaped same casts answered it =
    let old = db table.tree in
    let left = without_all old (ids_of rows) in
    let edit = edit_of db (uncounted table) (ids_of rows) Given 1 rows in
    let cast_back : Row → Row = λ s. cast_row (uncounted table) (drop 1 s) in
    let left_is : left ≡ filter (λ r. not (t r)) old = left_answered t g old rows shaped same answered in
    let news_are : edit.news ≡ map cast_back rows = numbered_given (map cast_back rows) left in
    let changed : map cast_back (map g (filter t old)) ≡ map f (filter t old) = map-map cast_back g (filter t old) ∙ map_agree _ f (filter t old) casts in
    let same_news : IsPermutation (map f (filter t old)) edit.news =
    subst (IsPermutation (map f (filter t old))) (sym news_are) (subst (λ l. IsPermutation l (map cast_back rows)) changed (IsPermutation-map cast_back _ _ answered)) in
    let beside : IsPermutation (map f (filter t old) ++ filter (λ r. not (t r)) old) (edit.news ++ left) =
    IsPermutation-append _ _ _ _ same_news (subst (IsPermutation (filter (λ r. not (t r)) old)) (sym left_is) (IsPermutation-refl _)) in (
      subst (IsPermutation (map f (filter t old) ++ filter (λ r. not (t r)) old)) (sym it.rows) (IsPermutation-trans _ _ _ beside (put_all_free edit.news left it.fresh)),
      subst (IsShaped Shaped) (sym it.rows) (put_all_shaped edit.news left it.keyed (without_all_shaped (ids_of rows) old shaped)),
    )

-- rows that pass a test were answered, and are gone
pub taken_out : (table : Table) (t : Row → Bool) (g : Row → Row) (db next : Trees) (rows : List Row) → IsShaped Shaped (db table.tree) → ((r : Row) → rowid (g r) ≡ rowid r)
    → IsPermutation (map g (filter t (db table.tree))) rows → Applies our_schema Enforced db (edit_of db (uncounted table) (ids_of rows) Given 0 []) next
    → (next table.tree ≡ filter (λ r. not (t r)) (db table.tree)) × IsShaped Shaped (next table.tree)
taken_out table t g db next rows shaped same answered it = (
  it.rows ∙ left_answered t g (db table.tree) rows shaped same answered,
  subst (IsShaped Shaped) (sym it.rows) (without_all_shaped (ids_of rows) (db table.tree) shaped),
)
