-- The tables of a history, read from its rows.
use Rattle.std.proofs.Common.{◌≡◌, ◌≢◌, ℕ, zero, suc, pos, ◌+◌, ◌<◌, ◌≤◌, ◌^◌, List, [], ◌∷◌, ◌++◌, length, take, drop, get_or, Some, false, cond, refl, sym, ap, ap₂, ◌∙◌, subst, arith, AllPairs, append_assoc, append-nil, length-append}
use Rattle.std.specs.Prelude.{nat_lt}
use Rattle.std.specs.List.{AllByRecursion, slice_get}
use Rattle.std.proofs.lemmas.List.{take_all, length-take-le}
use Rattle.std.proofs.lemmas.List.Elements.{recursion_from_All}
use Rattle.std.proofs.lemmas.Bool.{cond-false, le-ltb}
use Rattle.sqlite.specs.declared.types.Value.TheVariants.{Int}
use Rattle.sqlite.specs.Order.{Row, column}
use Rattle.ccr_history.specs.declared.table.TheConstants.{MOST_VERSIONS, MOST_SCOPES}
use Rattle.ccr_history.specs.TextMap.{TextMap, is_version}
use Rattle.ccr_history.specs.Scopes.{ScopeData, is_scope}
use Rattle.ccr_history.specs.Tables.{TableData, has_version, with_versions, with_report, reported, versions_of, is_table_full}
use Rattle.ccr_history.specs.History.{HistoryData, IsTable, AreTables}
use Rattle.ccr_history.specs.Changes.{versions, edited}
use Rattle.ccr_history.specs.Keys.{scope_equiv, version_equiv}
use Rattle.ccr_history.proofs.Links.{all-at}
use Rattle.ccr_history.proofs.Lists.{each_weaker, pairs_head, pairs_tail}
use Rattle.ccr_history.proofs.Positions.{any-none}
use Rattle.ccr_history.proofs.TableLaws.{versions_of-with_report}
use Rattle.ccr_store.specs.Rows.{scope_row, scope_rows}
use Rattle.ccr_store.specs.Texts.{IsTextTable}
use Rattle.ccr_store.proofs.FrontRows.{rows_length, row_there, next_item}
use Rattle.ccr_store.proofs.ListedRows.{drop_at}
use Rattle.ccr_store.proofs.OneHistory.{At, From}
use Rattle.ccr_store.proofs.ReadRows.{same_number}

-- ---- elements in front of one
last_in : {X : Type 0} (P : X → Type 0) (us : List X) (v : X) (vs : List X) → AllByRecursion P (us ++ v ∷ vs) → P v
last_in P [] v vs h = h.0
last_in P (u ∷ us) v vs h = last_in P us v vs h.1

front_apart : {X : Type 0} (R : X → X → Type 0) (us : List X) (v : X) (vs : List X) → AllPairs R (us ++ v ∷ vs) → AllByRecursion (λ u. R u v) us
front_apart R [] v vs h = tt
front_apart R (u ∷ us) v vs h =
    (last_in (R u) us v vs (recursion_from_All (R u) (us ++ v ∷ vs) (pairs_head R u (us ++ v ∷ vs) h)), front_apart R us v vs (pairs_tail R u (us ++ v ∷ vs) h))

pub before_all : {X : Type 0} (R : X → X → Type 0) (xs : List X) (i : ℕ) (x : X) → AllPairs R xs → slice_get xs i ≡ Some x → AllByRecursion (λ y. R y x) (take i xs)
before_all R [] i x pairs at = absurd (cc)
before_all R (y ∷ ys) zero x pairs at = tt
before_all R (y ∷ ys) (suc i) x pairs at =
    (all-at (R y) ys i x (recursion_from_All (R y) ys (pairs_head R y ys pairs)) at, before_all R ys i x (pairs_tail R y ys pairs) at)

-- ---- a report of what is new
abbrev Apart : TextMap → TextMap → Type 0
Apart v w = is_version v w ≡ false

all_new : (us vs : List TextMap) → AllPairs Apart (us ++ vs) → with_versions us vs ≡ us ++ vs
all_new us [] pairs = sym (append-nil us)
all_new us (v ∷ vs) pairs =
    let others : AllByRecursion (λ u. is_version v u ≡ false) us = each_weaker (λ u. Apart u v) (λ u. is_version v u ≡ false) (λ u apart. version_equiv.symm v u ∙ apart) us (front_apart Apart us v vs pairs) in
    let none : has_version us v ≡ false = any-none (is_version v) us others in
    ap (λ b. with_versions (cond b us (us ++ v ∷ [])) vs) none ∙ all_new (us ++ v ∷ []) vs (subst (AllPairs Apart) (sym (append_assoc us (v ∷ []) vs)) pairs) ∙ append_assoc us (v ∷ []) vs

abbrev pub IsNew : ScopeData → List TableData → Type 0
IsNew s ts = AllByRecursion (λ t. is_scope s t.scope ≡ false) ts

new_report : (s : ScopeData) (vs : List TextMap) (ts : List TableData) → IsNew s ts → with_report s vs ts ≡ ts ++ record { scope = s; versions = with_versions [] vs } ∷ []
new_report s vs [] new = refl
new_report s vs (t ∷ ts) new =
    cond-false (is_scope s t.scope) (record { scope = t.scope; versions = with_versions t.versions vs } ∷ ts) (t ∷ with_report s vs ts) new.0 ∙ ap (λ l. t ∷ l) (new_report s vs ts new.1)

no_versions : (s : ScopeData) (ts : List TableData) → IsNew s ts → versions_of s ts ≡ []
no_versions s [] new = refl
no_versions s (t ∷ ts) new = cond-false (is_scope s t.scope) t.versions (versions_of s ts) new.0 ∙ no_versions s ts new.1

some_reported : (s : ScopeData) (vs : List TextMap) (ts : List TableData) → 0 < length vs → reported s vs ts ≡ with_report s vs ts
some_reported s [] ts some = absurd (omega arith)
some_reported s (v ∷ vs) ts some = refl

pub new_table : (t : TableData) (ts : List TableData) → IsTable t → IsNew t.scope ts → reported t.scope t.versions ts ≡ ts ++ t ∷ []
new_table t ts rules new =
    some_reported t.scope t.versions ts rules.0 ∙ new_report t.scope t.versions ts new ∙ ap (λ (vs : List TextMap). ts ++ record { scope = t.scope; versions = vs } ∷ []) (all_new [] t.versions rules.2)

pub new_fits : (t : TableData) (ts : List TableData) → IsTable t → IsNew t.scope ts → length ts < MOST_SCOPES → is_table_full t.scope t.versions ts ≡ false
new_fits t ts rules new room =
    let has : versions_of t.scope (reported t.scope t.versions ts) ≡ t.versions =
    ap (versions_of t.scope) (some_reported t.scope t.versions ts rules.0) ∙ versions_of-with_report t.scope t.versions ts ∙ ap (λ (us : List TextMap). with_versions us t.versions) (no_versions t.scope ts new) ∙ all_new [] t.versions rules.2 in
    let few : nat_lt MOST_VERSIONS (length (versions_of t.scope (reported t.scope t.versions ts))) ≡ false = le-ltb _ _ (subst (λ (us : List TextMap). length us ≤ MOST_VERSIONS) (sym has) rules.1) in
    let many : length (reported t.scope t.versions ts) ≤ MOST_SCOPES = omega (arith, ap (λ (us : List TableData). length us) (new_table t ts rules new), length-append ts (t ∷ []), room) in
    rw (few, le-ltb MOST_SCOPES _ many) refl

pub table_added : (t : TableData) (h new : HistoryData) (scope : ScopeData) (seen : List TextMap) → IsTable t → IsNew t.scope h.tables → scope ≡ t.scope → seen ≡ t.versions → new ≡ edited (versions scope seen) h → new ≡ record h { tables = h.tables ++ t ∷ [] }
table_added t h new scope seen rules others a b is =
    is ∙ ap₂ (λ (s : ScopeData) (vs : List TextMap). edited (versions s vs) h) a b ∙ ap (λ (ts : List TableData). record h { tables = ts }) (new_table t h.tables rules others)

pub table_fits : (t : TableData) (ts : List TableData) (scope : ScopeData) (seen : List TextMap) → IsTable t → IsNew t.scope ts → length ts < MOST_SCOPES → scope ≡ t.scope → seen ≡ t.versions → is_table_full scope seen ts ≡ false
table_fits t ts scope seen rules others room a b = ap₂ (λ (s : ScopeData) (vs : List TextMap). is_table_full s vs ts) a b ∙ new_fits t ts rules others room

-- ---- the table of a row
pub table_read : (ts : List TableData) (rows : List Row) (i : ℕ) (r : Row) → AreTables ts → AllByRecursion IsTextTable ts → rows ≡ scope_rows 1 ts → i < length rows → r ≡ get_or rows i r
    → (t : TableData) × (i + 1 < 2 ^ 32) × IsTable t × IsTextTable t × (r ≡ scope_row (i + 1) t.scope) × (drop i ts ≡ t ∷ drop (i + 1) ts) × IsNew t.scope (take i ts) × (length (take i ts) < MOST_SCOPES) × (take (i + 1) ts ≡ take i ts ++ t ∷ [])
table_read ts rows i r rules texts same within is =
    let it = row_there scope_rows (λ k (t : TableData). scope_row k t.scope) (λ k. refl) (λ k x xs. refl) 1 ts rows i r same within is in
    let many = rows_length scope_rows (λ k (t : TableData). scope_row k t.scope) (λ k. refl) (λ k x xs. refl) 1 ts in
    let inside : i < length ts = omega (arith, within, ap (λ (l : List Row). length l) same, many) in
    let taken : length (take i ts) ≡ i = length-take-le i ts (omega (arith, inside)) in
    let next : 1 + i ≡ i + 1 = omega arith in (
      it.0,
      omega (arith, inside, rules.0),
      all-at IsTable ts i it.0 rules.2 it.1,
      all-at IsTextTable ts i it.0 texts it.1,
      it.2 ∙ ap (λ n. scope_row n it.0.scope) next,
      drop_at ts i it.0 it.1,
      each_weaker (λ (s : TableData). is_scope s.scope it.0.scope ≡ false) (λ s. is_scope it.0.scope s.scope ≡ false) (λ s apart. scope_equiv.symm it.0.scope s.scope ∙ apart) (take i ts)
          (before_all (λ (s t : TableData). is_scope s.scope t.scope ≡ false) ts i it.0 rules.1 it.1),
      omega (arith, inside, taken, rules.0),
      next_item ts i it.0 it.1,
    )

-- the rows of its versions, and those behind them
pub here_at : (id x : ℕ) (rows : List Row) → x ≡ id → AllByRecursion (At id) rows → AllByRecursion (λ r. column r 0 ≡ Int (pos x)) rows
here_at id x rows same all = each_weaker (At id) (λ r. column r 0 ≡ Int (pos x)) (λ r at. ap (λ (s : Row). column s 0) at.1 ∙ ap (λ (n : ℕ). Int (pos n)) (sym same)) rows all

pub not_at : (id x : ℕ) (rows : List Row) → x ≡ id → AllByRecursion (From (id + 1)) rows → AllByRecursion (λ r. column r 0 ≢ Int (pos x)) rows
not_at id x rows same all =
    each_weaker (From (id + 1)) (λ r. column r 0 ≢ Int (pos x)) (λ r from is.
    let number : x ≡ from.0 = same_number x from.0 (sym is ∙ ap (λ (s : Row). column s 0) from.2.1) in
    omega (arith, number, same, from.1)) rows all

pub number_read : (id x : ℕ) (r : Row) (q : Row) → r ≡ Int (pos id) ∷ q → column r 0 ≡ Int (pos x) → x ≡ id
number_read id x r q is read = same_number x id (sym read ∙ ap (λ (s : Row). column s 0) is)

pub tables_whole : (ts : List TableData) (rows : List Row) (i : ℕ) → rows ≡ scope_rows 1 ts → length rows ≤ i → take i ts ≡ ts
tables_whole ts rows i same past =
    take_all i ts (omega (arith, ap (λ (l : List Row). length l) same, rows_length scope_rows (λ k (t : TableData). scope_row k t.scope) (λ k. refl) (λ k x xs. refl) 1 ts, past))
