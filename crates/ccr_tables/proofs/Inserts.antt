-- What an INSERT of one row does.
use Rattle.std.proofs.Common.{IfErr, ◌≡◌, ◌≢◌, ◌⊎◌, inl, inr, ℕ, ◌/◌, List, [], ◌∷◌, length, drop, slice_get, Bool, true, false, cond, Some, None, Ok, Err, Result, refl, sym, ap, subst, ◌∙◌, IsPermutation}
use Rattle.std.specs.List.{AllByRecursion}
use Rattle.sqlite.specs.declared.types.Value.{Value}
use Rattle.sqlite.specs.declared.types.Value.TheVariants.{Null, Int}
use Rattle.sqlite.specs.Order.{Row}
use Rattle.sqlite.specs.Ops.{unary}
use Rattle.sqlite.specs.Term.{Term}
use Rattle.sqlite.specs.Table.{Table}
use Rattle.sqlite.specs.Kind.TheVariants.{Integer}
use Rattle.sqlite.specs.Source.TheVariants.{Values}
use Rattle.sqlite.specs.Command.TheVariants.{Insert}
use Rattle.sqlite.specs.Edit.{edit_of, edited, with_rowid, Applies}
use Rattle.sqlite.specs.Cast.{cast, cast_row}
use Rattle.sqlite.specs.Rowids.TheVariants.{Chosen}
use Rattle.sqlite_schema.specs.declared.schema.Keys.TheVariants.{Enforced}
use Rattle.sqlite_trees.specs.declared.store.Shape.TheVariants.{Table as Shaped}
use Rattle.sqlite_trees.specs.View.{IsShaped}
use Rattle.sqlite.specs.Does.{Tally, Does}
use Rattle.sqlite.specs.Rows.{Written, stamped}
use Rattle.sqlite.specs.declared.error.Error.{Error}
use Rattle.sqlite.specs.Listing.{understood}
use Rattle.sqlite.specs.Effect.{Database, IsDatabase, value_rows}
use Rattle.sqlite.specs.State.{State, mode_of, Executes, ExecutesInside, KeepsCommit, IsUnchanged, IsRolledBack}
use Rattle.sqlite.proofs.Callers.{IsPlain, command_of, statement_of, runs_as, one_step}
use Rattle.ccr_tables.specs.Schema.{our_schema}
use Rattle.ccr_tables.specs.Contents.{Contents, Holds}
use Rattle.ccr_tables.specs.Step.{Alters}
use Rattle.ccr_tables.proofs.Edits.{put_all_free, put_all_shaped}

-- a part that gave a value did not stop on the way
pub went : {B E R : Type 0} {b : B} {Stops : E → Type 0} → ((stop : E) × Stops stop × (Ok b ≡ Err stop)) ⊎ R → R
went (inl stopped) = absurd (let e = stopped.2 in cc)
went (inr on) = on

pub same_value : {B E : Type 0} {a b : B} → ◌≡◌ {A = Result B E} (Ok a) (Ok b) → a ≡ b
same_value e = cc

either : (b : Bool) (x : Value) → cond b x x ≡ x
either true x = refl
either false x = refl

pub cast_null : cast Integer Null ≡ Null
unfolding unary
cast_null = either _ Null

pub cast_int : (n : _) → cast Integer (Int n) ≡ Int n
unfolding unary
cast_int n = either _ (Int n)

pub unchanged_keeps : (old new : State) → IsUnchanged old new → KeepsCommit old new
unchanged_keeps old new h = record { was_open = λ _. h.0.was_open; committed = λ _. h.0.committed_is }

pub back_keeps : (old new : State) → IsRolledBack old new → KeepsCommit old new
back_keeps old new h = record { was_open = h.was_open; committed = λ o. (h.undone o).1 }

-- the trees of meta, scopes, versions, builds, pairs and pins
abbrev pub our_trees : List ℕ
our_trees = 0 ∷ 1 ∷ 3 ∷ 6 ∷ 8 ∷ 10 ∷ []

-- the rows of the table in this tree, in some order, and the other trees as they were
pub record Becomes (tree : ℕ) (all : List Row) (old new : Database) : Type 0 where
  pub schema : new.schema ≡ our_schema
  pub rows : IsPermutation all (new.trees tree)
  pub shaped : IsShaped Shaped (old.trees tree) → IsShaped Shaped (new.trees tree)
  pub others : AllByRecursion (λ t. t ≢ tree → new.trees t ≡ old.trees t) our_trees

-- no AUTOINCREMENT, so that what depends on it computes
abbrev pub uncounted : Table → Table
uncounted table = record table { is_counted = false }

module _ (text : List ℕ) (at : ℕ) (table : Table) (terms : List Term) (width : ℕ)
    (is : command_of (understood our_schema text) ≡ Insert at (Values terms width)) (plain : IsPlain (understood our_schema text))
    (place : slice_get our_schema.tables at ≡ Some (uncounted table)) where
  pub inserts : (old new : State) (params source : Row) (count : ℕ) → old.now.schema ≡ our_schema → value_rows (stamped table params) width (length terms / width) terms ≡ source ∷ []
      → Executes text params old new (Ok count)
      → (new.now.schema ≡ our_schema) × Applies our_schema Enforced old.now.trees (edit_of old.now.trees (uncounted table) [] Chosen 0 (source ∷ [])) new.now.trees
  inserts old new params source count has gives h =
      let db = old.now.trees in
      let command = Insert at (Values terms width) in
      let w = runs_as text params old new our_schema has command is plain count h in
      let said = statement_of text (understood our_schema text) in
      let done = went (rw place at (subst (λ s. Does old.step_limit (mode_of old) params (record old.now { schema = s }) said None command (Ok (w.tally, new.now))) has w.changed)) in
      let now = ap (λ (p : Tally × Database). p.1) (same_value (went (went done.2).2).2) in
      let given = went done.1 in
      let written = went (went given.2).2 in
      let counted = went written.2 in
      let trees : done.0.trees ≡ written.0 = ap (λ (it : Written). it.trees) (same_value counted.2) ∙ same_value counted.1 in
      let wrote = one_step our_schema _ db written.0 (edit_of db (uncounted table) [] Chosen 0 given.0) refl written.1 in
      let source_is : given.0 ≡ source ∷ [] = given.1.1 ∙ gives in (
        ap (λ (d : Database). d.schema) now,
        subst (λ t. Applies our_schema Enforced db (edit_of db (uncounted table) [] Chosen 0 (source ∷ [])) t) (sym (ap (λ (d : Database). d.trees) now ∙ trees))
            (subst (λ all. Applies our_schema Enforced db (edit_of db (uncounted table) [] Chosen 0 all) written.0) source_is wrote),
      )

  -- the row as the table keeps it, whatever its number
  pub adds : (old new : State) (params source raw : Row) (count : ℕ) → old.now.schema ≡ our_schema → value_rows (stamped table params) width (length terms / width) terms ≡ source ∷ []
      → cast_row (uncounted table) (drop 0 source) ≡ raw → Executes text params old new (Ok count)
      → Becomes table.tree (with_rowid Chosen (old.now.trees table.tree) raw ∷ old.now.trees table.tree) old.now new.now
  adds old new params source raw count has gives cast h =
      let did = inserts old new params source count has gives h in
      let it = did.1 in
      let rows = old.now.trees table.tree in
      let edit = edit_of old.now.trees (uncounted table) [] Chosen 0 (source ∷ []) in
      let free = put_all_free edit.news rows it.fresh in
      record {
        schema = did.0;
        rows = subst (IsPermutation (with_rowid Chosen rows raw ∷ rows)) (sym it.rows) (subst (λ r. IsPermutation (with_rowid Chosen rows r ∷ rows) (edited old.now.trees edit)) cast free);
        shaped = λ shaped. subst (IsShaped Shaped) (sym it.rows) (put_all_shaped edit.news rows it.keyed shaped);
        others = it.tables;
      }

-- what a statement inside a transaction leaves, by what it does alone
pub alters : (text : List ℕ) (params : Row) (change : Contents → Contents) (old new : State) (r : Result ℕ Error)
    → ((count : ℕ) → (these : Contents) → Holds these old.now → Executes text params old new (Ok count) → Holds (change these) new.now × IsDatabase new.now) → ExecutesInside 0 text params old new r → Alters old new change r
alters text params change old new (Ok count) does h = record {
  kept = record { was_open = λ _. h.1.was_open; committed = λ _. h.1.committed_is };
  made = (h.1.mode, λ these holds. (does count these holds h.0).0);
  opened = h.1.was_open;
  sound = λ these holds. (does count these holds h.0).1;
}
alters text params change old new (Err e) does (inl h) = record { kept = elim h.1 [ inl same ↦ unchanged_keeps old new same | inr back ↦ back_keeps old new back ]; made = tt; opened = tt; sound = tt }
alters text params change old new (Err e) does (inr h) = record { kept = unchanged_keeps old new h.2; made = tt; opened = tt; sound = tt }

-- an error of a statement is what SQLite answered
pub answered : (text : List ℕ) (params : Row) (old new : State) (r : Result ℕ Error) → ExecutesInside 0 text params old new r → IfErr r (λ e. ExecutesInside 0 text params old new (Err e))
answered text params old new (Ok count) does = tt
answered text params old new (Err e) does = does
