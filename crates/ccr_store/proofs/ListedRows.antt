-- Rows in the order of their keys, compared with a history from the first to the last.
use Rattle.std.proofs.Common.{◌≡◌, ℕ, zero, suc, ◌+◌, ◌-◌, ◌<◌, List, [], ◌∷◌, ◌++◌, map, length, take, drop, get_or, Option, Some, None, Vec, Global, subst, option_map, unwrap_or, refl, sym, ap, ap₂, ◌∙◌, arith, IsPermutation}
use Rattle.std.proofs.lemmas.Bool.{ne_eqb}
use Rattle.std.proofs.lemmas.List.{append_assoc, take-append-drop}
use Rattle.std.proofs.lemmas.List.Sorted.{IsPermutation-refl, IsPermutation-sym, IsPermutation-trans, IsPermutation-append, IsPermutation-append_comm}
use Rattle.std.proofs.lemmas.Option.{slice_get-get_or, same_Some}
use Rattle.std.specs.List.{slice_get}
use Rattle.sqlite.specs.declared.types.Value.{Value}
use Rattle.sqlite.specs.Order.{Row, column}
use Rattle.sqlite_keyed.proofs.ListLemmas.{IsPermutation-same}
use Rattle.ccr_history.specs.Scopes.{ScopeData}
use Rattle.ccr_history.specs.Tables.{TableData, at_place, versions_at}
use Rattle.ccr_history.specs.Builds.{BuildData}
use Rattle.ccr_history.specs.History.{HistoryData}
use Rattle.ccr_tables.specs.Contents.{Contents}
use Rattle.ccr_tables.specs.Listing.{IsListed}
use Rattle.ccr_tables.specs.Found.{AreFound}
use Rattle.ccr_tables.specs.Shown.{Shows, ShowsOfKind, ShowsOther}
use Rattle.sqlite.specs.Effect.{Database}
use Rattle.ccr_store.specs.Listed.{AreSeen, AreBuilt, HasOther, listed_pairs, history_pairs, ListsSeen, ListsBuilt, KeepsSeen}
use Rattle.ccr_store.specs.Reordered.{HasSameRows}
use Rattle.ccr_store.specs.declared.format.Format.{Format}
use Rattle.ccr_store.specs.Rows.{meta_rows, scope_rows, version_rows, table_rows, used_row, moved_row, disabled_rows, pair_rows, rows_in}

-- ---- the columns of a row
pub two : (r : Row) (a b : Value) → length r ≡ 2 → column r 0 ≡ a → column r 1 ≡ b → r ≡ a ∷ b ∷ []
two [] a b many p q = absurd (omega (arith, many))
two (x ∷ []) a b many p q = absurd (omega (arith, many))
two (x ∷ y ∷ []) a b many p q = ap₂ (λ (v w : Value). v ∷ w ∷ []) p q
two (x ∷ y ∷ z ∷ r) a b many p q = absurd (omega (arith, many))

pub three : (r : Row) (a b c : Value) → length r ≡ 3 → column r 0 ≡ a → column r 1 ≡ b → column r 2 ≡ c → r ≡ a ∷ b ∷ c ∷ []
three [] a b c many p q s = absurd (omega (arith, many))
three (x ∷ r) a b c many p q s =
    let rest : length r ≡ 2 = omega (arith, many) in
    ap₂ (λ (v : Value) (vs : Row). v ∷ vs) p (two r b c rest q s)

pub four : (r : Row) (a b c d : Value) → length r ≡ 4 → column r 0 ≡ a → column r 1 ≡ b → column r 2 ≡ c → column r 3 ≡ d → r ≡ a ∷ b ∷ c ∷ d ∷ []
four [] a b c d many p q s t = absurd (omega (arith, many))
four (x ∷ r) a b c d many p q s t =
    let rest : length r ≡ 3 = omega (arith, many) in
    ap₂ (λ (v : Value) (vs : Row). v ∷ vs) p (three r b c d rest q s t)

-- ---- from one element on
pub drop_at : {X : Type 0} → (xs : List X) (i : ℕ) (x : X) → slice_get xs i ≡ Some x → drop i xs ≡ x ∷ drop (i + 1) xs
drop_at [] i x at = absurd (cc)
drop_at (y ∷ ys) zero x at = let same : y ≡ x = cc in ap (λ z. z ∷ ys) same
drop_at (y ∷ ys) (suc i) x at =
    let next : suc (i + 1) ≡ suc i + 1 = omega arith in
    drop_at ys i x at ∙ ap (λ n. x ∷ drop n (y ∷ ys)) next

pub drop_read : {X : Type 0} → (xs : List X) (i : ℕ) (x : X) → i < length xs → x ≡ get_or xs i x → drop i xs ≡ x ∷ drop (i + 1) xs
drop_read xs i x within is = drop_at xs i x (slice_get-get_or xs i x within ∙ ap Some (sym is))

-- a row for each element, numbered from 1: from one element on, if it is so from the next one on
pub rows_step : {X : Type 0} → (rows_from : ℕ → List X → List Row) (row_of : ℕ → X → Row) → ((k : ℕ) (x : X) (xs : List X) → rows_from k (x ∷ xs) ≡ row_of k x ∷ rows_from (k + 1) xs)
    → (rows : List Row) (xs : List X) (i : ℕ) (row : Row) (x : X) → i < length rows → row ≡ get_or rows i row → slice_get xs i ≡ Some x → row ≡ row_of (i + 1) x
    → drop (i + 1) rows ≡ rows_from (i + 1 + 1) (drop (i + 1) xs) → drop i rows ≡ rows_from (i + 1) (drop i xs)
rows_step rows_from row_of each rows xs i row x within is at same rest =
    drop_read rows i row within is ∙ ap₂ (λ (r : Row) (rs : List Row). r ∷ rs) same rest
    ∙ sym (each (i + 1) x (drop (i + 1) xs)) ∙ ap (rows_from (i + 1)) (sym (drop_at xs i x at))

-- the versions of one scope and of those behind it
pub tables_step : (ts : List TableData) (i : ℕ) (t : TableData) (rest here more : List Row) → slice_get ts i ≡ Some t → rest ≡ here ++ more → here ≡ version_rows (i + 1) 1 t.versions
    → more ≡ table_rows (i + 1 + 1) (drop (i + 1) ts) → rest ≡ table_rows (i + 1) (drop i ts)
tables_step ts i t rest here more at both first second =
    both ∙ ap₂ (λ (r s : List Row). r ++ s) first second ∙ ap (table_rows (i + 1)) (sym (drop_at ts i t at))

-- the pairs of one build and of those behind it
pub pairs_step : (bs : List BuildData) (i : ℕ) (b : BuildData) (rest more : List Row) → slice_get bs i ≡ Some b → rest ≡ (map (moved_row (i + 1)) b.moved ++ map (used_row (i + 1)) b.used) ++ more
    → more ≡ listed_pairs (i + 1 + 1) (drop (i + 1) bs) → rest ≡ listed_pairs (i + 1) (drop i bs)
pairs_step bs i b rest more at both second =
    both ∙ ap (λ (s : List Row). (map (moved_row (i + 1)) b.moved ++ map (used_row (i + 1)) b.used) ++ s) second ∙ ap (listed_pairs (i + 1)) (sym (drop_at bs i b at))

some_at : {X : Type 0} → (xs : List X) (i : ℕ) → i < length xs → (x : X) × (slice_get xs i ≡ Some x)
some_at [] i within = absurd (omega arith)
some_at (x ∷ xs) zero within = (x, refl)
some_at (x ∷ xs) (suc i) within = some_at xs i (omega arith)

-- what stands at a place, the first at 1
pub at_next : {X : Type 0} → (xs : List X) (i : ℕ) → at_place (i + 1) xs ≡ slice_get xs i
at_next xs i =
    let back : i + 1 - 1 ≡ i = omega arith in
    rw (ne_eqb (i + 1) 0 (λ e. omega (arith, e)), back) refl

-- the table whose scope has this number
pub scope_there : (ts : List TableData) (n i : ℕ) (s : ScopeData) → n ≡ i → option_map (λ (t : TableData). t.scope) (at_place (n + 1) ts) ≡ Some s → (t : TableData) × (slice_get ts i ≡ Some t) × (t.scope ≡ s)
scope_there ts n i s same has = by (slice_get ts i) refl (sym (ap (option_map (λ (t : TableData). t.scope)) (at_next ts n ∙ ap (slice_get ts) same)) ∙ has)
  where
    by : (o : Option TableData) → slice_get ts i ≡ o → option_map (λ (t : TableData). t.scope) (slice_get ts i) ≡ Some s → (t : TableData) × (slice_get ts i ≡ Some t) × (t.scope ≡ s)
    by None at is = absurd (let both = ap (option_map (λ (t : TableData). t.scope)) (sym at) ∙ is in cc)
    by (Some t) at is = let both : Some t.scope ≡ Some s = ap (option_map (λ (t : TableData). t.scope)) (sym at) ∙ is in (t, at, same_Some t.scope s both)

-- the table of this number has its versions
pub versions_there : (ts : List TableData) (i : ℕ) → i < length ts → (t : TableData) × (slice_get ts i ≡ Some t) × (versions_at (i + 1) ts ≡ t.versions)
versions_there ts i within =
    let it = some_at ts i within in
    (it.0, it.1, ap (λ o. unwrap_or (option_map (λ (t : TableData). t.versions) o) []) (at_next ts i ∙ it.1))

-- two parts of a list and the rest
pub parted : (rows first rest second more a b : List Row) (n m : ℕ) → first ≡ take n rows → rest ≡ drop n rows → second ≡ take m rest → more ≡ drop m rest → first ≡ a → second ≡ b → rows ≡ (a ++ b) ++ more
parted rows first rest second more a b n m p q r s one two =
    sym (take-append-drop n rows) ∙ ap₂ (λ (x y : List Row). x ++ y) (sym p ∙ one) (sym q ∙ sym (take-append-drop m rest) ∙ ap₂ (λ (x y : List Row). x ++ y) (sym r ∙ two) (sym s))
    ∙ sym (append_assoc a b more)

-- ---- the same rows in another order
pub pairs_listed : (id : ℕ) (bs : List BuildData) → IsPermutation (pair_rows id bs) (listed_pairs id bs)
pairs_listed id [] = IsPermutation-refl []
pairs_listed id (b ∷ bs) =
    IsPermutation-append (map (used_row id) b.used ++ map (moved_row id) b.moved) (map (moved_row id) b.moved ++ map (used_row id) b.used) (pair_rows (id + 1) bs) (listed_pairs (id + 1) bs)
    (IsPermutation-append_comm (map (used_row id) b.used) (map (moved_row id) b.moved)) (pairs_listed (id + 1) bs)

pub all_pairs_listed : (h : HistoryData) → IsPermutation (disabled_rows h.disabled ++ pair_rows 1 h.builds) (history_pairs h)
all_pairs_listed h =
    IsPermutation-append (disabled_rows h.disabled) (disabled_rows h.disabled) (pair_rows 1 h.builds) (listed_pairs 1 h.builds) (IsPermutation-refl (disabled_rows h.disabled)) (pairs_listed 1 h.builds)

-- the rows that the SELECTs show are those of the history
found : (xs these rows : List Row) (width : ℕ) → xs ≡ rows → IsListed width these rows → IsPermutation xs these
found xs these rows width same shown = IsPermutation-trans xs rows these (IsPermutation-same xs rows same) (IsPermutation-sym these rows shown.same)

pub loaded : (f : Format) (old h : HistoryData) (these : Contents) (meta scopes versions builds pairs pins : List Row) → KeepsSeen old h → ListsSeen f old meta scopes versions → ListsBuilt h builds pairs pins
    → AreSeen these meta scopes versions → AreBuilt these builds pairs pins → HasSameRows (rows_in f h) these
loaded f old h these meta scopes versions builds pairs pins kept first second seen built = record {
  meta = found (rows_in f h).meta these.meta meta 1 (ap (meta_rows f) kept.1 ∙ sym first.set) seen.set;
  scopes = found (rows_in f h).scopes these.scopes scopes 1 (ap (scope_rows 1) kept.0 ∙ sym first.named) seen.named;
  versions = found (rows_in f h).versions these.versions versions 2 (ap (table_rows 1) kept.0 ∙ sym first.reported) seen.reported;
  builds = found (rows_in f h).builds these.builds builds 1 (sym second.made) built.made;
  pairs = IsPermutation-trans (rows_in f h).pairs (history_pairs h) these.pairs (all_pairs_listed h) (found (history_pairs h) these.pairs pairs 4 (sym second.given) built.given);
  pins = found (rows_in f h).pins these.pins pins 1 (sym second.held) built.held;
}

-- what is found of a kind is the rows of the table in the order of their key
pub found_listed : (Kind : Row → Type 0) (width : ℕ) (these : List Row) (found : Option (Vec Row Global)) (items : Vec Row Global) → found ≡ Some items → AreFound Kind width these found → IsListed width these items.items
found_listed Kind width these found items is are =
    let it = subst (AreFound Kind width these) is are in
    subst (IsListed width these) (sym it.2) it.1

pub found_other : (Kind : Row → Type 0) (width : ℕ) (these : List Row) (found : Option (Vec Row Global)) → ((items : Vec Row Global) → found ≡ Some items → ⊥) → AreFound Kind width these found → HasOther Kind width these
found_other Kind width these None none are = are
found_other Kind width these (Some items) none are = absurd (none items refl)

pub shown_found : (Kind : Row → Type 0) (text : List ℕ) (db : Database) (found : Option (Vec Row Global)) (items : Vec Row Global) → found ≡ Some items → ShowsOfKind Kind text db found → Shows text db items.items
shown_found Kind text db found items is are =
    let it = subst (ShowsOfKind Kind text db) is are in
    subst (Shows text db) (sym it.2) it.1

pub shown_other : (Kind : Row → Type 0) (text : List ℕ) (db : Database) (found : Option (Vec Row Global)) → ((items : Vec Row Global) → found ≡ Some items → ⊥) → ShowsOfKind Kind text db found → ShowsOther Kind text db
shown_other Kind text db None none are = are
shown_other Kind text db (Some items) none are = absurd (none items refl)
