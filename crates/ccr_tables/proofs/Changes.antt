-- What the statements do that change or remove rows.
use Rattle.std.proofs.Common.{◌≡◌, ◌≢◌, inl, ℕ, ℤ, pos, List, [], ◌∷◌, ◌++◌, map, filter, Bool, true, false, not, ◌&&◌, ◌||◌, cond, Some, Ok, refl, sym, ap, ap₂, subst, ◌∙◌, arith, is_eq, Ordering, Less, Equal, Greater, true≢false, IsTrue, bytes_eq, IsPermutation}
use Rattle.std.specs.List.{AllByRecursion, list_any, list_all}
use Rattle.std.specs.Ordering.{int_cmp}
use Rattle.std.proofs.lemmas.Cmp.{int_ranked}
use Rattle.std.proofs.lemmas.Bool.{false_from_ne_true}
use Rattle.std.proofs.lemmas.Map.Text.{is_eq-slice_cmp}
use Rattle.std.proofs.lemmas.Slice.Eq.{bytes_eq-Decides}
use Rattle.std.proofs.lemmas.List.Sorted.{IsPermutation-refl, IsPermutation-sym, IsPermutation-trans, IsPermutation-map, list_any-IsPermutation}
use Rattle.sqlite.specs.declared.types.Value.{Value}
use Rattle.sqlite.specs.declared.types.Value.TheVariants.{Null, Int, Real, Text, Blob}
use Rattle.sqlite.specs.Order.{Row, column, value_cmp}
use Rattle.sqlite_value.specs.Keys.{first_key}
use Rattle.sqlite_value.proofs.OrderLemmas.{value_cmp-Null, value_cmp-Int, value_cmp-Text}
use Rattle.sqlite_value.proofs.KeyLemmas.{class_tied}
use Rattle.sqlite.specs.Collation.TheVariants.{Binary}
use Rattle.sqlite_sql.specs.declared.ops.BinaryOp.TheVariants.{Compare}
use Rattle.sqlite_sql.specs.declared.ops.CompareOp.TheVariants.{Eq}
use Rattle.sqlite_sql.specs.Ops.{binary, unary, is_true, from_truth}
use Rattle.sqlite_sql.specs.declared.ops.UnaryOp.TheVariants.{ToNumeric}
use Rattle.sqlite_sql.specs.Term.{holds}
use Rattle.sqlite_schema.specs.Rules.{equal, differ, clashes}
use Rattle.sqlite_schema.specs.declared.schema.Constraint.TheVariants.{Unique}
use Rattle.sqlite_rules.specs.Keys.{AreConflicts, conflicts}
use Rattle.sqlite_rules.specs.Edit.{id_in}
use Rattle.sqlite_rules.proofs.TableLemmas.{int_is}
use Rattle.sqlite.specs.Rowids.TheVariants.{Given, Chosen}
use Rattle.sqlite_trees.specs.declared.store.Shape.TheVariants.{Table as Shaped}
use Rattle.sqlite_trees.specs.View.{is_int, IsShaped}
use Rattle.sqlite.specs.Tree.{Trees, rowid, has_rowid}
use Rattle.sqlite.specs.Term.{Term, lit, col, op2}
use Rattle.sqlite.specs.Cast.{cast_row}
use Rattle.sqlite.specs.Edit.{edit_of, with_rowid, Applies}
use Rattle.sqlite.specs.Program.{overlay}
use Rattle.sqlite.specs.State.{State, Executes}
use Rattle.sqlite_keyed.proofs.ListLemmas.{map-map, map_same, filter_same, filter_all, filter-map, all_map, all_kept, all-filter, none_from_any, IsPermutation-filter}
use Rattle.ccr_tables.specs.Schema.{our_schema, meta, builds, pairs, pins}
use Rattle.ccr_tables.specs.Contents.{Contents, Holds, IsBuild, meta_row, build_row, pair_row, pin_row}
use Rattle.ccr_tables.specs.Written.{begins_with, without, restated, is_row, with_meta, with_status, without_pair, with_pin, without_pin}
use Rattle.ccr_tables.proofs.Edits.{all_both, all_from_has, all_permuted, all_at, filter_agree, map_some, put_all_free, put_all_shaped, one_only}
use Rattle.ccr_tables.proofs.Inserts.{Becomes, uncounted, cast_null, cast_int}
use Rattle.ccr_tables.proofs.Selects.{answered, answered_four}
use Rattle.ccr_tables.proofs.Turns.{row_in, turn_meta, turn_builds, turn_pairs, turn_pins}
use Rattle.ccr_tables.proofs.Updates.{PutsOr, updates, deletes, upserts, put_back, taken_out}
use Rattle.ccr_tables.proofs.Texts as texts

-- ---- tests

truth_back : (b : Bool) → is_true (from_truth (Some b)) ≡ b
truth_back true = refl
truth_back false = refl

pub equal_int : (v : Value) (n : ℤ) → equal Binary v (Int n) ≡ is_eq (value_cmp v (Int n))
unfolding binary
equal_int Null n = ap is_eq (sym (value_cmp-Null (Int n)))
equal_int (Int m) n = truth_back _
equal_int (Real x) n = truth_back _
equal_int (Text t) n = truth_back _
equal_int (Blob b) n = truth_back _

pub equal_text : (v : Value) (s : List ℕ) → equal Binary v (Text s) ≡ is_eq (value_cmp v (Text s))
unfolding binary
equal_text Null s = ap is_eq (sym (value_cmp-Null (Text s)))
equal_text (Int m) s = truth_back _
equal_text (Real x) s = truth_back _
equal_text (Text t) s = truth_back _
equal_text (Blob b) s = truth_back _

differ_int : (m n : ℤ) → differ (Int m) (Int n) ≡ not (is_eq (value_cmp (Int m) (Int n)))
unfolding binary
differ_int m n = go (value_cmp (Int m) (Int n))
  where
    go : (o : Ordering) → is_true (from_truth (Some (Rattle.std.specs.Ordering.is_ne o))) ≡ not (is_eq o)
    go Less = refl
    go Equal = refl
    go Greater = refl

equal_from : (o : Ordering) → is_eq o ≡ true → o ≡ Equal
equal_from Less h = absurd (true≢false (sym h))
equal_from Equal h = refl
equal_from Greater h = absurd (true≢false (sym h))

same_int : (m n : ℤ) → is_eq (int_cmp m n) ≡ true → m ≡ n
same_int m n h = int_ranked m n Equal (sym (equal_from (int_cmp m n) h))

-- a number that equals this one is this one
pub int_is_int : (v : Value) (n : ℤ) → is_int v ≡ true → is_eq (value_cmp v (Int n)) ≡ true → v ≡ Int n
int_is_int Null n int h = absurd (true≢false (sym int))
int_is_int (Int m) n int h = ap Int (same_int m n (ap is_eq (sym (value_cmp-Int m n)) ∙ h))
int_is_int (Real x) n int h = absurd (true≢false (sym int))
int_is_int (Text t) n int h = absurd (true≢false (sym int))
int_is_int (Blob b) n int h = absurd (true≢false (sym int))

same_bytes : (t s : List ℕ) → bytes_eq t s ≡ true → t ≡ s
same_bytes t s h = (bytes_eq-Decides t s).0 h

-- what equals a text is this text
pub text_is_text : (v : Value) (s : List ℕ) → is_eq (value_cmp v (Text s)) ≡ true → v ≡ Text s
text_is_text Null s h = absurd (let e : 0 ≡ 2 = class_tied Null (Text s) (equal_from _ h) in omega arith)
text_is_text (Int m) s h = absurd (let e : 1 ≡ 2 = class_tied (Int m) (Text s) (equal_from _ h) in omega arith)
text_is_text (Real x) s h = absurd (let e : 1 ≡ 2 = class_tied (Real x) (Text s) (equal_from _ h) in omega arith)
text_is_text (Text t) s h = ap Text (same_bytes t s (sym (is_eq-slice_cmp t s) ∙ ap is_eq (sym (value_cmp-Text t s)) ∙ h))
text_is_text (Blob b) s h = absurd (let e : 3 ≡ 2 = class_tied (Blob b) (Text s) (equal_from _ h) in omega arith)

tidy : (b : Bool) → ((b && true) || false) ≡ b
tidy true = refl
tidy false = refl

-- ---- UPDATE of a status

abbrev changed : ℕ → Row → Row
changed status r = column r 0 ∷ Null ∷ column r 2 ∷ column r 3 ∷ Int (pos status) ∷ []

status_cast : (a b c : Value) (status : ℕ) (n m : ℤ) (job : List ℕ) → a ≡ Int n → b ≡ Text job → c ≡ Int m
    → cast_row (uncounted (record builds { tree = 6 })) (a ∷ Null ∷ b ∷ c ∷ Int (pos status) ∷ []) ≡ (a ∷ Null ∷ b ∷ c ∷ Int (pos status) ∷ [])
status_cast a b c status n m job ea eb ec = rw (ea, eb, ec, cast_null, cast_int n, cast_int m, cast_int (pos status))

pub change_status : (id status : ℕ) (old new : State) (count : ℕ) (these : Contents) → Holds these old.now → Executes texts.set_status_text (Int (pos id) ∷ Int (pos status) ∷ []) old new (Ok count)
    → Holds (with_status id status these) new.now
change_status id status old new count these has h =
    let params : Row = Int (pos id) ∷ Int (pos status) ∷ [] in
    let db = old.now.trees in
    let rows = db 6 in
    let did = updates texts.set_status_text 3 (record builds { tree = 6 }) texts.status_set texts.set_status_command texts.set_status_plain refl old new params count has.schema h in
    let t : Row → Bool = begins_with (Int (pos id)) in
    let g : Row → Row = λ r. column r 0 ∷ changed status r in
    let f : Row → Row = changed status in
    let test : Term = op2 (Compare Eq Binary) (col 1 0) (col 0 0) in
    let project : List Term = col 1 0 ∷ col 1 0 ∷ lit Null ∷ col 1 2 ∷ col 1 3 ∷ col 0 1 ∷ [] in
    let shown : IsPermutation (map g (filter (λ r. holds (params ∷ r ∷ []) test) rows)) did.1.0 = answered 6 test project (overlay db []) params did.1.0 did.1.1 in
    let passes : filter (λ r. holds (params ∷ r ∷ []) test) rows ≡ filter t rows = filter_same _ t (λ r. equal_int (column r 0) (pos id)) rows in
    let casts = all_both (λ r. IsTrue (is_int (rowid r))) IsBuild (λ r. cast_row (uncounted (record builds { tree = 6 })) (changed status r) ≡ changed status r)
    (λ r int b. status_cast (column r 0) (column r 2) (column r 3) status (id_in (rowid r)) b.1 b.0 (int_is (rowid r) int) b.2 b.3) rows has.rows.numbered_builds.1 has.rows.typed_builds in
    let put = put_back (record builds { tree = 6 }) t g f db new.now.trees did.1.0 has.rows.numbered_builds (λ r. refl) (all-filter _ t rows casts)
    (subst (λ l. IsPermutation (map g l) did.1.0) passes shown) did.1.2 in
    let each : Row → Row = λ r. cond (t r) (f r) r in
    let stored : IsPermutation (map each rows) (new.now.trees 6) = IsPermutation-trans _ _ _ (map_some t f rows) put.0 in
    let change : Row → Row = λ r. cond (begins_with (Int (pos id)) r) (restated status r) r in
    let alike : map change (map build_row rows) ≡ map build_row (map each rows) =
    map-map change build_row rows
    ∙ map_same _ (λ r. build_row (each r)) (λ r. elim (t r) as (λ b. cond b (restated status (build_row r)) (build_row r) ≡ build_row (cond b (f r) r)) [ true ↦ refl | false ↦ refl ]) rows
    ∙ sym (map-map build_row each rows) in
    let first : IsPermutation (map change these.builds) (map build_row (map each rows)) = subst (IsPermutation (map change these.builds)) alike (IsPermutation-map change _ _ has.rows.builds) in
    let typed : AllByRecursion IsBuild (new.now.trees 6) = all_permuted IsBuild _ _ stored (all_map IsBuild each rows
    (all_both IsBuild IsBuild (λ r. IsBuild (each r)) (λ r b _. elim (t r) as (λ x. IsBuild (cond x (f r) r)) [ true ↦ (b.0, b.1, b.2, b.3) | false ↦ b ]) rows has.rows.typed_builds has.rows.typed_builds)) in
    turn_builds these (map change these.builds) _ old.now new.now has (record { schema = did.0; rows = put.0; shaped = λ _. put.1; others = did.1.2.tables })
    (IsPermutation-trans _ _ _ first (IsPermutation-map build_row _ _ stored)) typed

-- ---- DELETE of a pin

-- the contents without a key are the rows without it
kept_rows : (shown : Row → Row) (key : Value) (t : Row → Bool) (these rows : List Row) → ((r : Row) → begins_with key (shown r) ≡ t r) → IsPermutation these (map shown rows)
    → IsPermutation (without key these) (map shown (filter (λ r. not (t r)) rows))
kept_rows shown key t these rows same permuted =
    let p : Row → Bool = λ r. not (begins_with key r) in
    subst (IsPermutation (without key these)) (filter-map p shown rows ∙ ap (map shown) (filter_same (λ r. not (begins_with key (shown r))) (λ r. not (t r)) (λ r. ap not (same r)) rows)) (IsPermutation-filter p _ _ permuted)

pub drop_pin : (resource : List ℕ) (old new : State) (count : ℕ) (these : Contents) → Holds these old.now → Executes texts.remove_pin_text (Text resource ∷ []) old new (Ok count)
    → Holds (without_pin resource these) new.now
drop_pin resource old new count these has h =
    let params : Row = Text resource ∷ [] in
    let db = old.now.trees in
    let rows = db 10 in
    let did = deletes texts.remove_pin_text 5 (record pins { tree = 10 }) texts.pin_gone texts.remove_pin_command texts.remove_pin_plain refl old new params count has.schema h in
    let t : Row → Bool = λ r. is_eq (value_cmp (column r 1) (Text resource)) in
    let g : Row → Row = λ r. column r 0 ∷ [] in
    let test : Term = op2 (Compare Eq Binary) (col 1 1) (col 0 0) in
    let shown : IsPermutation (map g (filter (λ r. holds (params ∷ r ∷ []) test) rows)) did.1 = answered 10 test (col 1 0 ∷ []) (overlay db []) params did.1 did.2 in
    let passes : filter (λ r. holds (params ∷ r ∷ []) test) rows ≡ filter t rows = filter_same _ t (λ r. equal_text (column r 1) resource) rows in
    let out = taken_out (record pins { tree = 10 }) t g db new.now.trees did.1 has.rows.numbered_pins (λ r. refl) (subst (λ l. IsPermutation (map g l) did.1) passes shown) did.3 in
    let all = filter (λ r. not (t r)) rows in
    turn_pins these (without (Text resource) these.pins) all old.now new.now has
    (record { schema = did.0; rows = subst (IsPermutation all) (sym out.0) (IsPermutation-refl all); shaped = λ _. out.1; others = did.3.tables })
    (subst (λ l. IsPermutation (without (Text resource) these.pins) (map pin_row l)) (sym out.0) (kept_rows pin_row (Text resource) t these.pins rows (λ r. refl) has.rows.pins))

-- ---- DELETE of a pair

last : (b : Bool) → (b && true) ≡ b
last true = refl
last false = refl

numeric : (n : ℤ) → unary ToNumeric (Int n) ≡ Int n
unfolding unary
numeric n = refl

equal_number : (v : Value) (n : ℤ) → equal Binary v (unary ToNumeric (Int n)) ≡ is_eq (value_cmp v (Int n))
equal_number v n = ap (equal Binary v) (numeric n) ∙ equal_int v n

abbrev both : Bool → Bool → Bool
both a b = a && b

pub drop_pair : (build : ℕ) (input : List ℕ) (scope place : ℕ) (old new : State) (count : ℕ) (these : Contents) → Holds these old.now
    → Executes texts.remove_pair_text (Int (pos build) ∷ Text input ∷ Int (pos scope) ∷ Int (pos place) ∷ []) old new (Ok count)
    → Holds (without_pair build input scope place these) new.now
drop_pair build input scope place old new count these has h =
    let params : Row = Int (pos build) ∷ Text input ∷ Int (pos scope) ∷ Int (pos place) ∷ [] in
    let db = old.now.trees in
    let rows = db 8 in
    let did = deletes texts.remove_pair_text 4 (record pairs { tree = 8 }) texts.pair_gone texts.remove_pair_command texts.remove_pair_plain refl old new params count has.schema h in
    let is : Row → Bool = is_row (Int (pos build)) (Text input) (Int (pos scope)) (Int (pos place)) in
    let t : Row → Bool = λ r. is (pair_row r) in
    let g : Row → Row = λ r. column r 0 ∷ [] in
    let tested : Row → Bool = λ r. holds (params ∷ r ∷ []) (texts.is_number 1 0) && (holds (params ∷ r ∷ []) (texts.is_text 2 1) && (holds (params ∷ r ∷ []) (texts.is_number 3 2) && (holds (params ∷ r ∷ []) (texts.is_number 4 3) && true))) in
    let shown : IsPermutation (map g (filter tested rows)) did.1 = answered_four 8 (texts.is_number 1 0) (texts.is_text 2 1) (texts.is_number 3 2) (texts.is_number 4 3) (col 1 0 ∷ []) (overlay db []) params did.1 did.2 in
    let passes : filter tested rows ≡ filter t rows = filter_same tested t
    (λ r. ap₂ both (equal_number (column r 1) (pos build)) (ap₂ both (equal_text (column r 2) input) (ap₂ both (equal_number (column r 3) (pos scope)) (last _ ∙ equal_number (column r 4) (pos place))))) rows in
    let out = taken_out (record pairs { tree = 8 }) t g db new.now.trees did.1 has.rows.numbered_pairs (λ r. refl) (subst (λ l. IsPermutation (map g l) did.1) passes shown) did.3 in
    let all = filter (λ r. not (t r)) rows in
    let left : Row → Bool = λ r. not (is r) in
    let kept : IsPermutation (filter left these.pairs) (map pair_row all) =
    subst (IsPermutation (filter left these.pairs)) (filter-map left pair_row rows) (IsPermutation-filter left _ _ has.rows.pairs) in
    turn_pairs these (filter left these.pairs) all old.now new.now has
    (record { schema = did.0; rows = subst (IsPermutation all) (sym out.0) (IsPermutation-refl all); shaped = λ _. out.1; others = did.3.tables })
    (subst (λ l. IsPermutation (filter left these.pairs) (map pair_row l)) (sym out.0) kept)

-- ---- a row in place of one with its key

abbrev meta_raw : ℕ → List ℕ → Row
meta_raw k v = Int (pos k) ∷ Null ∷ Blob v ∷ []

meta_cast : (a : Value) (n : ℤ) (v : List ℕ) → a ≡ Int n → cast_row (uncounted meta) (a ∷ Null ∷ Blob v ∷ []) ≡ (a ∷ Null ∷ Blob v ∷ [])
meta_cast a n v e = rw (e, cast_null, cast_int n)

meta_conflicts : (k : ℕ) (v : List ℕ) (r : Row) → conflicts (Some (0 ∷ [])) our_schema.indexes (uncounted meta) (meta_raw k v) r ≡ begins_with (Int (pos k)) r
unfolding first_key
meta_conflicts k v r = tidy (equal Binary (column r 0) (Int (pos k))) ∙ equal_int (column r 0) (pos k)

-- the rows of meta: the new one, and those with another key
module _ (k : ℕ) (v : List ℕ) (db next : Trees) (shaped : IsShaped Shaped (db 0)) where
  abbrev is_key : Row → Bool
  is_key = begins_with (Int (pos k))

  abbrev MetaRows : Type 0
  MetaRows = IsPermutation (meta_raw k v ∷ filter (λ r. not (is_key r)) (db 0)) (next 0) × IsShaped Shaped (next 0) × AllByRecursion (λ t. t ≢ 0 → next t ≡ db t) Rattle.ccr_tables.proofs.Inserts.our_trees

  meta_put : (found : List Row) → AreConflicts (Some (0 ∷ [])) our_schema.indexes (uncounted meta) (db 0) (meta_raw k v) found
      → PutsOr meta texts.meta_over (Int (pos k) ∷ Blob v ∷ []) db next (meta_raw k v) found → MetaRows
  meta_put [] c it =
      let edit = edit_of db (uncounted meta) [] Given 0 (meta_raw k v ∷ []) in
      let others : filter (λ r. not (is_key r)) (db 0) ≡ db 0 = filter_all _ (db 0)
      (all_from_has (λ r. not (is_key r) ≡ true) (db 0) (λ r there. ap not (false_from_ne_true (is_key r) (λ yes. c.complete r there (meta_conflicts k v r ∙ yes))))) in
      let free = put_all_free edit.news (db 0) it.fresh in
      let raw = subst (λ x. IsPermutation (x ∷ db 0) (Rattle.sqlite.specs.Edit.edited db edit)) (meta_cast (Int (pos k)) (pos k) v refl) free in (
        subst (λ l. IsPermutation (meta_raw k v ∷ l) (next 0)) (sym others) (subst (IsPermutation (meta_raw k v ∷ db 0)) (sym it.rows) raw),
        subst (IsShaped Shaped) (sym it.rows) (put_all_shaped edit.news (db 0) it.keyed shaped),
        it.tables,
      )
  meta_put (there ∷ more) c it =
      let seen = c.sound there (inl refl) in
      let r0 = seen.0 in
      let id : rowid r0 ≡ Int (pos k) = int_is_int (rowid r0) (pos k) (all_at _ (db 0) r0 shaped.1 seen.1) (sym (meta_conflicts k v r0) ∙ seen.2) in
      let there_is : rowid there ≡ Int (pos k) = ap rowid seen.3 ∙ id in
      let params : Row = Int (pos k) ∷ Blob v ∷ rowid there ∷ Int (pos k) ∷ Int (pos k) ∷ Blob v ∷ [] in
      let f : Row → Row = λ r. column r 0 ∷ Null ∷ Blob v ∷ [] in
      let g : Row → Row = λ r. column r 0 ∷ f r in
      let test : Term = op2 (Compare Eq Binary) (col 1 0) (col 0 2) in
      let shown : IsPermutation (map g (filter (λ r. holds (params ∷ r ∷ []) test) (db 0))) it.0 = answered 0 test (col 1 0 ∷ col 1 0 ∷ lit Null ∷ col 0 5 ∷ []) (overlay db []) params it.0 it.1 in
      let passes : filter (λ r. holds (params ∷ r ∷ []) test) (db 0) ≡ filter is_key (db 0) =
      filter_same _ is_key (λ r. ap (equal Binary (column r 0)) there_is ∙ equal_int (column r 0) (pos k)) (db 0) in
      let one : filter is_key (db 0) ≡ r0 ∷ [] = one_only (pos k) r0 (db 0) shaped seen.1 id in
      let put = put_back meta is_key g f db next it.0 shaped (λ r. refl) (subst (AllByRecursion (λ r. cast_row (uncounted meta) (f r) ≡ f r)) (sym one) (meta_cast (rowid r0) (pos k) v id, tt))
      (subst (λ l. IsPermutation (map g l) it.0) passes shown) it.2 in (
        subst (λ x. IsPermutation ((x ∷ Null ∷ Blob v ∷ []) ∷ filter (λ r. not (is_key r)) (db 0)) (next 0)) id
            (subst (λ l. IsPermutation (map f l ++ filter (λ r. not (is_key r)) (db 0)) (next 0)) one put.0),
        put.1,
        it.2.tables,
      )

pub set_meta : (k : ℕ) (v : List ℕ) (old new : State) (count : ℕ) (these : Contents) → Holds these old.now → Executes texts.put_meta_text (Int (pos k) ∷ Blob v ∷ []) old new (Ok count)
    → Holds (with_meta k v these) new.now
set_meta k v old new count these has h =
    let db = old.now.trees in
    let source : Row = meta_raw k v in
    let did = upserts texts.put_meta_text 0 meta (col 0 0 ∷ lit Null ∷ col 0 1 ∷ []) 3 (Some (0 ∷ [])) texts.meta_over texts.put_meta_command texts.put_meta_plain refl old new _ source count has.schema refl h in
    let got : (found : List Row) × AreConflicts (Some (0 ∷ [])) our_schema.indexes (uncounted meta) (db 0) source found × PutsOr meta texts.meta_over (Int (pos k) ∷ Blob v ∷ []) db new.now.trees source found =
    subst (λ r. (found : List Row) × AreConflicts (Some (0 ∷ [])) our_schema.indexes (uncounted meta) (db 0) (with_rowid Chosen (db 0) r) found
    × PutsOr meta texts.meta_over (Int (pos k) ∷ Blob v ∷ []) db new.now.trees (with_rowid Chosen (db 0) r) found) (meta_cast (Int (pos k)) (pos k) v refl) did.1 in
    let put = meta_put k v db new.now.trees has.rows.numbered_meta got.0 got.1 got.2 in
    let key : Value = Int (pos k) in
    let others = filter (λ r. not (begins_with key r)) (db 0) in
    turn_meta these ((key ∷ Blob v ∷ []) ∷ without key these.meta) (source ∷ others) old.now new.now has (record { schema = did.0; rows = put.0; shaped = λ _. put.1; others = put.2 })
    (row_in meta_row (without key these.meta) (key ∷ Blob v ∷ []) source others (new.now.trees 0) refl (kept_rows meta_row key (begins_with key) these.meta (db 0) (λ r. refl) has.rows.meta) put.0)

abbrev pin_raw : ℤ → List ℕ → List ℕ → Row
pin_raw n resource body = Int n ∷ Text resource ∷ Text body ∷ []

pin_cast : (a b : Value) (n : ℤ) (resource body : List ℕ) → a ≡ Int n → b ≡ Text resource → cast_row (uncounted (record pins { tree = 10 })) (a ∷ b ∷ Text body ∷ []) ≡ (a ∷ b ∷ Text body ∷ [])
pin_cast a b n resource body e d = rw (e, d, cast_int n)

abbrev names : List ℕ → Row → Bool
names resource r = is_eq (value_cmp (column r 1) (Text resource))

pin_conflicts : (n : ℤ) (resource body : List ℕ) (r : Row) → conflicts (Some (1 ∷ [])) our_schema.indexes (uncounted (record pins { tree = 10 })) (pin_raw n resource body) r ≡ names resource r
unfolding first_key
pin_conflicts n resource body r = tidy (equal Binary (column r 1) (Text resource)) ∙ equal_text (column r 1) resource

-- that a row has another key than this one, as its index says
other_key : (rows : Trees) (row : Row) → Rattle.sqlite_schema.specs.Rules.passes Unique our_schema rows (record pins { tree = 10 }) row ≡ true
    → list_any (λ other. (equal Binary (column other 1) (column row 1) && true) && differ (rowid other) (rowid row)) (rows 10) ≡ false
unfolding first_key
other_key rows row h = go (list_any (λ other. (equal Binary (column other 1) (column row 1) && true) && differ (rowid other) (rowid row)) (rows 10)) h
  where
    go : (b : Bool) → (not b && true) ≡ true → b ≡ false
    go true h = absurd (true≢false (sym h))
    go false h = refl

both_false : (a b : Bool) → ((a && true) && b) ≡ false → b ≡ true → a ≡ false
both_false true b h e = absurd (true≢false (sym e ∙ h))
both_false false b h e = refl

module _ (resource body : List ℕ) (db next : Trees) (shaped : IsShaped Shaped (db 10)) where
  abbrev PinRows : Type 0
  PinRows = (n : ℤ) × IsPermutation (pin_raw n resource body ∷ filter (λ r. not (names resource r)) (db 10)) (next 10) × IsShaped Shaped (next 10)
      × AllByRecursion (λ t. t ≢ 10 → next t ≡ db t) Rattle.ccr_tables.proofs.Inserts.our_trees

  pin_put : (m : ℤ) (found : List Row) → AreConflicts (Some (1 ∷ [])) our_schema.indexes (uncounted (record pins { tree = 10 })) (db 10) (pin_raw m resource body) found
      → PutsOr (record pins { tree = 10 }) texts.pin_over (Text resource ∷ Text body ∷ []) db next (pin_raw m resource body) found → PinRows
  pin_put m [] c it =
      let edit = edit_of db (uncounted (record pins { tree = 10 })) [] Given 0 (pin_raw m resource body ∷ []) in
      let others : filter (λ r. not (names resource r)) (db 10) ≡ db 10 = filter_all _ (db 10)
      (all_from_has (λ r. not (names resource r) ≡ true) (db 10) (λ r there. ap not (false_from_ne_true (names resource r) (λ yes. c.complete r there (pin_conflicts m resource body r ∙ yes))))) in
      let free = put_all_free edit.news (db 10) it.fresh in
      let raw = subst (λ x. IsPermutation (x ∷ db 10) (Rattle.sqlite.specs.Edit.edited db edit)) (pin_cast (Int m) (Text resource) m resource body refl refl) free in (
        m,
        subst (λ l. IsPermutation (pin_raw m resource body ∷ l) (next 10)) (sym others) (subst (IsPermutation (pin_raw m resource body ∷ db 10)) (sym it.rows) raw),
        subst (IsShaped Shaped) (sym it.rows) (put_all_shaped edit.news (db 10) it.keyed shaped),
        it.tables,
      )
  pin_put m (there ∷ more) c it =
      let seen = c.sound there (inl refl) in
      let r0 = seen.0 in
      let n = id_in (rowid r0) in
      let id : rowid r0 ≡ Int n = int_is (rowid r0) (all_at _ (db 10) r0 shaped.1 seen.1) in
      let key : names resource r0 ≡ true = sym (pin_conflicts m resource body r0) ∙ seen.2 in
      let text : column r0 1 ≡ Text resource = text_is_text (column r0 1) resource key in
      let there_is : rowid there ≡ Int n = ap rowid seen.3 ∙ id in
      let params : Row = Text resource ∷ Text body ∷ rowid there ∷ Int m ∷ Text resource ∷ Text body ∷ [] in
      let f : Row → Row = λ r. column r 0 ∷ column r 1 ∷ Text body ∷ [] in
      let g : Row → Row = λ r. column r 0 ∷ f r in
      let t : Row → Bool = has_rowid n in
      let rest = filter (λ r. not (t r)) (db 10) in
      let test : Term = op2 (Compare Eq Binary) (col 1 0) (col 0 2) in
      let shown : IsPermutation (map g (filter (λ r. holds (params ∷ r ∷ []) test) (db 10))) it.0 = answered 10 test (col 1 0 ∷ col 1 0 ∷ col 1 1 ∷ col 0 5 ∷ []) (overlay db []) params it.0 it.1 in
      let passes : filter (λ r. holds (params ∷ r ∷ []) test) (db 10) ≡ filter t (db 10) =
      filter_same _ t (λ r. ap (equal Binary (column r 0)) there_is ∙ equal_int (column r 0) n) (db 10) in
      let one : filter t (db 10) ≡ r0 ∷ [] = one_only n r0 (db 10) shaped seen.1 id in
      let put = put_back (record pins { tree = 10 }) t g f db next it.0 shaped (λ r. refl)
      (subst (AllByRecursion (λ r. cast_row (uncounted (record pins { tree = 10 })) (f r) ≡ f r)) (sym one) (pin_cast (rowid r0) (column r0 1) n resource body id text, tt))
      (subst (λ l. IsPermutation (map g l) it.0) passes shown) it.2 in
      let there_now : IsPermutation (pin_raw n resource body ∷ rest) (next 10) =
      subst (λ x. IsPermutation ((x ∷ Text resource ∷ Text body ∷ []) ∷ rest) (next 10)) id
      (subst (λ x. IsPermutation ((rowid r0 ∷ x ∷ Text body ∷ []) ∷ rest) (next 10)) text (subst (λ l. IsPermutation (map f l ++ rest) (next 10)) one put.0)) in
      let unique = it.2.fits.rules Unique (λ e. absurd (let bad = e in cc)) in
      let mine = (all_permuted (λ row. Rattle.sqlite_schema.specs.Rules.passes Unique our_schema next (record pins { tree = 10 }) row ≡ true) (next 10) (pin_raw n resource body ∷ rest) (IsPermutation-sym _ _ there_now) unique.1.1.1.1.1.0).0 in
      let clash : Row → Bool = λ other. (equal Binary (column other 1) (Text resource) && true) && differ (rowid other) (Int n) in
      let none : list_any clash (pin_raw n resource body ∷ rest) ≡ false = list_any-IsPermutation clash _ _ there_now ∙ other_key next (pin_raw n resource body) mine in
      let free : AllByRecursion (λ r. clash r ≡ false) (pin_raw n resource body ∷ rest) = none_from_any clash (pin_raw n resource body ∷ rest) none in
      let apart : AllByRecursion (λ r. not (t r) ≡ true → clash r ≡ false) (db 10) = all_kept (λ r. clash r ≡ false) (λ r. not (t r)) (db 10) free.1 in
      let alone : AllByRecursion (λ r. t r ≡ true → names resource r ≡ true) (db 10) = all_kept (λ r. names resource r ≡ true) t (db 10) (subst (AllByRecursion (λ r. names resource r ≡ true)) (sym one) (key, tt)) in
      let agree : AllByRecursion (λ r. not (t r) ≡ not (names resource r)) (db 10) =
      all_both (λ r. IsTrue (is_int (rowid r))) (λ r. (not (t r) ≡ true → clash r ≡ false) × (t r ≡ true → names resource r ≡ true)) (λ r. not (t r) ≡ not (names resource r))
      (λ r int h. decide (t r) (names resource r) h.1 (λ off. sym (equal_text (column r 1) resource) ∙ both_false (equal Binary (column r 1) (Text resource)) (differ (rowid r) (Int n)) (h.0 off) (differs r n int off))) (db 10) shaped.1
      (all_both _ _ (λ r. (not (t r) ≡ true → clash r ≡ false) × (t r ≡ true → names resource r ≡ true)) (λ r a b. (a, b)) (db 10) apart alone) in (
        n,
        subst (λ l. IsPermutation (pin_raw n resource body ∷ l) (next 10)) (filter_agree _ _ (db 10) agree) there_now,
        put.1,
        it.2.tables,
      )
    where
      decide : (a b : Bool) → (a ≡ true → b ≡ true) → (not a ≡ true → b ≡ false) → not a ≡ not b
      decide true b on off = ap not (sym (on refl))
      decide false b on off = ap not (sym (off refl))

      differs : (r : Row) (n : ℤ) → is_int (rowid r) ≡ true → not (has_rowid n r) ≡ true → differ (rowid r) (Int n) ≡ true
      differs r n int off =
          let is = int_is (rowid r) int in
          ap (λ v. differ v (Int n)) is ∙ differ_int (id_in (rowid r)) n ∙ ap (λ v. not (is_eq (value_cmp v (Int n)))) (sym is) ∙ off

pub set_pin : (resource body : List ℕ) (old new : State) (count : ℕ) (these : Contents) → Holds these old.now → Executes texts.put_pin_text (Text resource ∷ Text body ∷ []) old new (Ok count)
    → Holds (with_pin resource body these) new.now
set_pin resource body old new count these has h =
    let db = old.now.trees in
    let source : Row = Null ∷ Text resource ∷ Text body ∷ [] in
    let m = Rattle.sqlite_rules.specs.Edit.next_rowid (db 10) in
    let did = upserts texts.put_pin_text 5 (record pins { tree = 10 }) (lit Null ∷ col 0 0 ∷ col 0 1 ∷ []) 3 (Some (1 ∷ [])) texts.pin_over texts.put_pin_command texts.put_pin_plain refl old new _ source count has.schema refl h in
    let cast : cast_row (uncounted (record pins { tree = 10 })) source ≡ source = rw cast_null in
    let got : (found : List Row) × AreConflicts (Some (1 ∷ [])) our_schema.indexes (uncounted (record pins { tree = 10 })) (db 10) (pin_raw m resource body) found
    × PutsOr (record pins { tree = 10 }) texts.pin_over (Text resource ∷ Text body ∷ []) db new.now.trees (pin_raw m resource body) found =
    subst (λ r. (found : List Row) × AreConflicts (Some (1 ∷ [])) our_schema.indexes (uncounted (record pins { tree = 10 })) (db 10) (with_rowid Chosen (db 10) r) found
    × PutsOr (record pins { tree = 10 }) texts.pin_over (Text resource ∷ Text body ∷ []) db new.now.trees (with_rowid Chosen (db 10) r) found) cast did.1 in
    let put = pin_put resource body db new.now.trees has.rows.numbered_pins m got.0 got.1 got.2 in
    let key : Value = Text resource in
    let others = filter (λ r. not (names resource r)) (db 10) in
    turn_pins these ((key ∷ Text body ∷ []) ∷ without key these.pins) (pin_raw put.0 resource body ∷ others) old.now new.now has (record { schema = did.0; rows = put.1; shaped = λ _. put.2; others = put.3 })
    (row_in pin_row (without key these.pins) (key ∷ Text body ∷ []) (pin_raw put.0 resource body) others (new.now.trees 10) refl
    (kept_rows pin_row key (names resource) these.pins (db 10) (λ r. refl) has.rows.pins) put.1)
