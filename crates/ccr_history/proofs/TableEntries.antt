-- Version tables as the entries of a map from scopes.
use Rattle.std.proofs.Common.{◌≡◌, ℕ, ◌+◌, ◌-◌, ◌<◌, ◌≤◌, List, [], ◌∷◌, length, take, get_or, Bool, true, false, ◌||◌, cond, Option, Some, None, unwrap_or, is_some, refl, sym, ap, ◌∙◌, subst, if◌then◌else◌, position, nat_lt, lt-ltb, le-ltb, length-take, arith}
use Rattle.std.proofs.lemmas.List.{get_or-map, length-map, take_all}
use Rattle.std.proofs.lemmas.Map.Keys.{apart_from_distinct}
use Rattle.std.specs.List.{AllByRecursion, IsDistinct}
use Rattle.std.specs.Map.{keys_of, lookup, remove_entry}
use Rattle.std.specs.Prelude.{AllPairs}
use Rattle.indexmap.specs.IndexMap.{insert_entry, set_value_at}
use Rattle.indexmap.proofs.MapLemmas.{insert_entry-first, Found-position}
use Rattle.ccr_history.specs.declared.table.TheConstants.{MOST_VERSIONS, MOST_SCOPES}
use Rattle.ccr_history.specs.TextMap.{TextMap}
use Rattle.ccr_history.specs.Scopes.{ScopeData, is_scope}
use Rattle.ccr_history.specs.Tables.{TableData, with_versions, with_report, reported, versions_of, new_count, is_table_full, table_of, tables_of, AreVersions}
use Rattle.ccr_history.specs.Keys.{scope_equiv}
use Rattle.ccr_history.specs.History.{AreTables, IsTable}
use Rattle.ccr_history.proofs.VersionLists.{with_versions-longer, take-with_versions}

-- scopes with their versions
abbrev pub Entries : Type 0
Entries = List (ScopeData × List TextMap)

-- ---- the table of a scope

module _ (k : ScopeData) where
  -- the versions of the scope among entries
  abbrev pub found : Entries → List TextMap
  found es = unwrap_or (lookup (is_scope k) es) []

  -- entries, with these as the versions of the scope
  abbrev pub put : List TextMap → Entries → Entries
  put w es = insert_entry is_scope es k w

  pub versions_of-entries : (es : Entries) → versions_of k (tables_of es) ≡ found es
  versions_of-entries [] = refl
  versions_of-entries (e ∷ es) = by (is_scope k e.0) (versions_of-entries es)
    where
      by : (t : Bool) → versions_of k (tables_of es) ≡ found es → (if t then e.1 else versions_of k (tables_of es)) ≡ unwrap_or (cond t (Some e.1) (lookup (is_scope k) es)) []
      by true rest = refl
      by false rest = rest

  pub versions_found : (es : Entries) (w : List TextMap) → Some w ≡ lookup (is_scope k) es → w ≡ versions_of k (tables_of es)
  versions_found es w is = ap (λ o. unwrap_or o []) is ∙ sym (versions_of-entries es)

  pub versions_missing : (es : Entries) → None ≡ lookup (is_scope k) es → [] ≡ versions_of k (tables_of es)
  versions_missing es none = ap (λ o. unwrap_or o []) none ∙ sym (versions_of-entries es)

  -- a look-up that answers nothing
  pub missing : (es : Entries) → false ≡ is_some (lookup (is_scope k) es) → lookup (is_scope k) es ≡ None
  missing es = by (lookup (is_scope k) es)
    where
      by : (o : Option (List TextMap)) → false ≡ is_some o → o ≡ None
      by None is = refl
      by (Some w) is = cc

  pub with_report-entries : (vs : List TextMap) (es : Entries) → with_report k vs (tables_of es) ≡ tables_of (put (with_versions (found es) vs) es)
  with_report-entries vs [] = refl
  with_report-entries vs (e ∷ es) = by (is_scope k e.0) (with_report-entries vs es)
    where
      by : (t : Bool) → with_report k vs (tables_of es) ≡ tables_of (put (with_versions (found es) vs) es)
          → (if t then table_of (e.0, with_versions e.1 vs) ∷ tables_of es else table_of e ∷ with_report k vs (tables_of es))
          ≡ tables_of (if t then (e.0, with_versions (unwrap_or (cond t (Some e.1) (lookup (is_scope k) es)) []) vs) ∷ es else e ∷ put (with_versions (unwrap_or (cond t (Some e.1) (lookup (is_scope k) es)) []) vs) es)
      by true rest = refl
      by false rest = ap (λ l. table_of e ∷ l) rest

  pub found-put : (w : List TextMap) (es : Entries) → found (put w es) ≡ w
  found-put w [] = rw (scope_equiv.refl k) refl
  found-put w (e ∷ es) = by (is_scope k e.0) refl (found-put w es)
    where
      by : (t : Bool) → is_scope k e.0 ≡ t → found (put w es) ≡ w → found (if t then (e.0, w) ∷ es else e ∷ put w es) ≡ w
      by true is rest = rw is refl
      by false is rest = rw is rest

  pub length-put : (w : List TextMap) (es : Entries) → length (put w es) ≡ length es + (if is_some (lookup (is_scope k) es) then 0 else 1)
  length-put w [] = refl
  length-put w (e ∷ es) = by (is_scope k e.0) (length-put w es)
    where
      by : (t : Bool) → length (put w es) ≡ length es + (if is_some (lookup (is_scope k) es) then 0 else 1)
          → length (if t then (e.0, w) ∷ es else e ∷ put w es) ≡ length (e ∷ es) + (if is_some (cond t (Some e.1) (lookup (is_scope k) es)) then 0 else 1)
      by true rest = omega arith
      by false rest = omega (arith, rest)

  pub put-same : (w : List TextMap) (es : Entries) → lookup (is_scope k) es ≡ Some w → put w es ≡ es
  put-same w [] is = cc
  put-same w (e ∷ es) is = by (is_scope k e.0) is (put-same w es)
    where
      by : (t : Bool) → cond t (Some e.1) (lookup (is_scope k) es) ≡ Some w → (lookup (is_scope k) es ≡ Some w → put w es ≡ es) → (if t then (e.0, w) ∷ es else e ∷ put w es) ≡ e ∷ es
      by true same rest = let one : e.1 ≡ w = cc in rw (← one) refl
      by false same rest = ap (λ l. e ∷ l) (rest same)

  pub keys-put : (w v : List TextMap) (es : Entries) → lookup (is_scope k) es ≡ Some v → keys_of (put w es) ≡ keys_of es
  keys-put w v [] is = cc
  keys-put w v (e ∷ es) is = by (is_scope k e.0) is (keys-put w v es)
    where
      by : (t : Bool) → cond t (Some e.1) (lookup (is_scope k) es) ≡ Some v → (lookup (is_scope k) es ≡ Some v → keys_of (put w es) ≡ keys_of es) → keys_of (if t then (e.0, w) ∷ es else e ∷ put w es) ≡ e.0 ∷ keys_of es
      by true same rest = refl
      by false same rest = ap (λ l. e.0 ∷ l) (rest same)

  -- a write at the index of the scope
  pub set_value_at-put : (i : ℕ) (w : List TextMap) (es : Entries) → position (is_scope k) (keys_of es) ≡ Some i → set_value_at es i w ≡ put w es
  set_value_at-put i w es at = sym (insert_entry-first is_scope k w es i (Found-position (is_scope k) es i at).first)

-- ---- a report

module _ (k : ScopeData) (vs : List TextMap) (es : Entries) (some : 0 < length vs) where
  pub reported-entries : reported k vs (tables_of es) ≡ tables_of (put k (with_versions (found k es) vs) es)
  reported-entries = by vs some
    where
      by : (ws : List TextMap) → 0 < length ws → reported k ws (tables_of es) ≡ tables_of (put k (with_versions (found k es) ws) es)
      by [] none = absurd (omega (arith, none))
      by (w ∷ ws) _ = with_report-entries k (w ∷ ws) es

  reported_versions : versions_of k (reported k vs (tables_of es)) ≡ with_versions (found k es) vs
  reported_versions = ap (versions_of k) reported-entries ∙ versions_of-entries k (put k (with_versions (found k es) vs) es) ∙ found-put k (with_versions (found k es) vs) es

  reported_length : length (reported k vs (tables_of es)) ≡ length es + (if is_some (lookup (is_scope k) es) then 0 else 1)
  reported_length = ap length reported-entries ∙ length-map (put k (with_versions (found k es) vs) es) table_of ∙ length-put k (with_versions (found k es) vs) es

  pub new_count-entries : new_count k vs (tables_of es) ≡ length (with_versions (found k es) vs) - length (found k es)
  new_count-entries = rw (reported_versions, versions_of-entries k es) refl

  pub fits : length (with_versions (found k es) vs) ≤ MOST_VERSIONS → length es + (if is_some (lookup (is_scope k) es) then 0 else 1) ≤ MOST_SCOPES → is_table_full k vs (tables_of es) ≡ false
  fits few short = rw (reported_versions, reported_length, le-ltb MOST_VERSIONS (length (with_versions (found k es) vs)) few, le-ltb MOST_SCOPES (length es + (if is_some (lookup (is_scope k) es) then 0 else 1)) short) refl

  pub too_many_versions : MOST_VERSIONS < length (with_versions (found k es) vs) → is_table_full k vs (tables_of es) ≡ true
  too_many_versions many = rw (reported_versions, lt-ltb MOST_VERSIONS (length (with_versions (found k es) vs)) many) refl

  pub too_many_scopes : MOST_SCOPES < length es + (if is_some (lookup (is_scope k) es) then 0 else 1) → is_table_full k vs (tables_of es) ≡ true
  too_many_scopes many = rw (reported_length, lt-ltb MOST_SCOPES (length es + (if is_some (lookup (is_scope k) es) then 0 else 1)) many) (by (nat_lt MOST_VERSIONS (length (versions_of k (reported k vs (tables_of es))))))
    where
      by : (b : Bool) → (b || true) ≡ true
      by true = refl
      by false = refl

-- the same, where the scope has the table v, and w is written in its place
module _ (k : ScopeData) (vs : List TextMap) (es : Entries) (some : 0 < length vs) (i : ℕ) (v w : List TextMap) (at : position (is_scope k) (keys_of es) ≡ Some i) (here : lookup (is_scope k) es ≡ Some v) where
  was : found k es ≡ v
  was = ap (λ o. unwrap_or o []) here

  pub written : w ≡ with_versions v vs → tables_of (set_value_at es i w) ≡ reported k vs (tables_of es)
  written is =
      ap tables_of (set_value_at-put k i w es at) ∙ ap (λ l. tables_of (put k l es)) (is ∙ ap (λ l. with_versions l vs) (sym was)) ∙ sym (reported-entries k vs es some)

  pub written_count : w ≡ with_versions v vs → length w - length v ≡ new_count k vs (tables_of es)
  written_count is = ap (λ l. length l - length v) is ∙ ap (λ l. length (with_versions l vs) - length l) (sym was) ∙ sym (new_count-entries k vs es some)

  pub written_fits : w ≡ with_versions v vs → AreVersions w → AreTables (tables_of es) → is_table_full k vs (tables_of es) ≡ false
  written_fits is are tables = fits k vs es some (rw (was, ← is) are.0) (rw here (omega (arith, tables.0, length-map es table_of)))

  pub written_full : MOST_VERSIONS < length (with_versions v vs) → is_table_full k vs (tables_of es) ≡ true
  written_full many = too_many_versions k vs es some (rw was many)

  pub written_same : w ≡ v → tables_of (set_value_at es i w) ≡ tables_of es
  written_same is = ap tables_of (set_value_at-put k i w es at ∙ ap (λ l. put k l es) is ∙ put-same k v es here)

-- ---- what the entries keep

tables-put : (k : ScopeData) (w : List TextMap) → ((s : ScopeData) → IsTable (record { scope = s; versions = w })) → (es : Entries) → AllByRecursion IsTable (tables_of es) → AllByRecursion IsTable (tables_of (put k w es))
tables-put k w is [] h = (is k, tt)
tables-put k w is (e ∷ es) h = by (is_scope k e.0) (tables-put k w is es h.1)
  where
    by : (t : Bool) → AllByRecursion IsTable (tables_of (put k w es)) → AllByRecursion IsTable (tables_of (if t then (e.0, w) ∷ es else e ∷ put k w es))
    by true rest = (is e.0, h.1)
    by false rest = (h.0, rest)

tables-remove : (test : ScopeData → Bool) (es : Entries) → AllByRecursion IsTable (tables_of es) → AllByRecursion IsTable (tables_of (remove_entry test es))
tables-remove test [] h = h
tables-remove test (e ∷ es) h = by (test e.0) (tables-remove test es h.1)
  where
    by : (t : Bool) → AllByRecursion IsTable (tables_of (remove_entry test es)) → AllByRecursion IsTable (tables_of (cond t es (e ∷ remove_entry test es)))
    by true rest = h.1
    by false rest = (h.0, rest)

pub table-found : (k : ScopeData) (w : List TextMap) (es : Entries) → AllByRecursion IsTable (tables_of es) → lookup (is_scope k) es ≡ Some w → (s : ScopeData) × IsTable (record { scope = s; versions = w })
table-found k w [] h is = cc
table-found k w (e ∷ es) h is = by (is_scope k e.0) is (table-found k w es h.1)
  where
    by : (t : Bool) → cond t (Some e.1) (lookup (is_scope k) es) ≡ Some w → (lookup (is_scope k) es ≡ Some w → (s : ScopeData) × IsTable (record { scope = s; versions = w })) → (s : ScopeData) × IsTable (record { scope = s; versions = w })
    by true same rest = let one : e.1 ≡ w = cc in (e.0, subst (λ (l : List TextMap). IsTable (record { scope = e.0; versions = l })) one h.0)
    by false same rest = rest same

scopes_apart : (es : Entries) → IsDistinct is_scope (keys_of es) → AllPairs (λ s t. is_scope s.scope t.scope ≡ false) (tables_of es)
scopes_apart es distinct = λ i j d less within.
    let many : j < length es = omega (arith, within, length-map es table_of) in
    let entry : ScopeData × List TextMap = (d.scope, d.versions) in
    let at : (n : ℕ) → n < length es → (get_or (tables_of es) n d).scope ≡ get_or (keys_of es) n d.scope =
    λ n few. ap (λ t. t.scope) (get_or-map table_of es n entry d few) ∙ sym (get_or-map (λ e. e.0) es n entry d.scope few) in
    rw (at i (omega arith), at j many) (apart_from_distinct is_scope (keys_of es) i j d.scope distinct less (omega (arith, many, length-map es (λ e. e.0))))

is_table : (w : List TextMap) → 0 < length w → AreVersions w → (s : ScopeData) → IsTable (record { scope = s; versions = w })
is_table w some are s = (some, are.0, are.1, are.2)

are_tables : (es : Entries) → length es ≤ MOST_SCOPES → IsDistinct is_scope (keys_of es) → AllByRecursion IsTable (tables_of es) → AreTables (tables_of es)
are_tables es few distinct each = (omega (arith, few, length-map es table_of), scopes_apart es distinct, each)

-- a report without versions is no report too many
pub nothing_full : (k : ScopeData) (ts : List TableData) → AreTables ts → is_table_full k [] ts ≡ false
nothing_full k ts are = rw (le-ltb MOST_VERSIONS (length (versions_of k ts)) (few ts are.2), le-ltb MOST_SCOPES (length ts) are.0) refl
  where
    few : (us : List TableData) → AllByRecursion IsTable us → length (versions_of k us) ≤ MOST_VERSIONS
    few [] each = omega arith
    few (u ∷ us) each = by (is_scope k u.scope) (few us each.1)
      where
        by : (t : Bool) → length (versions_of k us) ≤ MOST_VERSIONS → length (if t then u.versions else versions_of k us) ≤ MOST_VERSIONS
        by true rest = each.0.1
        by false rest = rest

-- other versions of a scope that has a table
pub written_tables : (k : ScopeData) (i : ℕ) (v w : List TextMap) (es : Entries) → position (is_scope k) (keys_of es) ≡ Some i → lookup (is_scope k) es ≡ Some v → IsDistinct is_scope (keys_of es) → 0 < length w → AreVersions w → AreTables (tables_of es) → AreTables (tables_of (set_value_at es i w))
written_tables k i v w es at here distinct some are tables =
    let keys = keys-put k w v es here in
    let same : length (put k w es) ≡ length es = sym (length-map (put k w es) (λ e. e.0)) ∙ ap length keys ∙ length-map es (λ e. e.0) in
    subst (λ (l : Entries). AreTables (tables_of l)) (sym (set_value_at-put k i w es at))
    (are_tables (put k w es) (omega (arith, same, tables.0, length-map es table_of)) (rw keys distinct) (tables-put k w (is_table w some are) es tables.2))

-- the table of a scope that had none
pub added_tables : (k : ScopeData) (w : List TextMap) (es new : Entries) → lookup (is_scope k) es ≡ None → length es < MOST_SCOPES → new ≡ put k w es → IsDistinct is_scope (keys_of new) → 0 < length w → AreVersions w → AreTables (tables_of es) → AreTables (tables_of new)
added_tables k w es new none room is distinct some are tables =
    let long : length new ≡ length es + 1 = ap length is ∙ length-put k w es ∙ rw none refl in
    are_tables new (omega (arith, long)) distinct (rw is (tables-put k w (is_table w some are) es tables.2))

-- without the table of a scope
pub removed_tables : (k : ScopeData) (es new : Entries) → new ≡ remove_entry (is_scope k) es → length new ≤ length es → IsDistinct is_scope (keys_of new) → AreTables (tables_of es) → AreTables (tables_of new)
removed_tables k es new is short distinct tables =
    are_tables new (omega (arith, short, tables.0, length-map es table_of)) distinct (rw is (tables-remove (is_scope k) es tables.2))

-- ---- taking back

-- tables, before which a table with these versions stands, if there are any
abbrev before : ScopeData → List TextMap → List TableData → List TableData
before s [] ts = ts
before s (v ∷ vs) ts = record { scope = s; versions = v ∷ vs } ∷ ts

-- the tables without the last n versions of a scope, and without its table where that has no more than those
abbrev pub taken_back : ScopeData → ℕ → List TableData → List TableData
taken_back k n [] = []
taken_back k n (t ∷ ts) = if is_scope k t.scope then before t.scope (take (length t.versions - n) t.versions) ts else t ∷ taken_back k n ts

before-some : (t : TableData) (vs : List TextMap) (ts : List TableData) → 0 < length t.versions → vs ≡ t.versions → before t.scope vs ts ≡ t ∷ ts
before-some t [] ts some is = absurd (omega (arith, some, ap length is))
before-some t (v ∷ vs) ts some is = ap (λ l. record { scope = t.scope; versions = l } ∷ ts) is

nothing_back : (k : ScopeData) (n : ℕ) (ts : List TableData) → n ≡ 0 → AllByRecursion IsTable ts → taken_back k n ts ≡ ts
nothing_back k n [] none each = refl
nothing_back k n (t ∷ ts) none each = by (is_scope k t.scope) (nothing_back k n ts none each.1)
  where
    by : (b : Bool) → taken_back k n ts ≡ ts → (if b then before t.scope (take (length t.versions - n) t.versions) ts else t ∷ taken_back k n ts) ≡ t ∷ ts
    by true rest = before-some t _ ts each.0.0 (take_all (length t.versions - n) t.versions (omega arith))
    by false rest = ap (λ l. t ∷ l) rest

report_back : (k : ScopeData) (n : ℕ) (vs : List TextMap) (ts : List TableData) → n ≡ length (versions_of k (with_report k vs ts)) - length (versions_of k ts) → AllByRecursion IsTable ts → taken_back k n (with_report k vs ts) ≡ ts
report_back k n vs [] is each =
    let ws = with_versions [] vs in
    let all : n ≡ length ws = is ∙ rw (scope_equiv.refl k) (omega arith) in
    let none : length ws - n ≡ 0 = omega (arith, all) in
    rw (scope_equiv.refl k) (ap (λ m. before k (take m ws) []) none)
report_back k n vs (t ∷ ts) is each = by (is_scope k t.scope) refl (report_back k n vs ts)
  where
    by : (b : Bool) → is_scope k t.scope ≡ b → (n ≡ length (versions_of k (with_report k vs ts)) - length (versions_of k ts) → AllByRecursion IsTable ts → taken_back k n (with_report k vs ts) ≡ ts) → taken_back k n (with_report k vs (t ∷ ts)) ≡ t ∷ ts
    by true at rest =
        let ws = with_versions t.versions vs in
        let new : n ≡ length ws - length t.versions = is ∙ rw (at, at) refl in
        let left : length ws - n ≡ length t.versions = omega (arith, new, with_versions-longer t.versions vs) in
        rw (at, at) (before-some t (take (length ws - n) ws) ts each.0.0 (ap (λ m. take m ws) left ∙ take-with_versions t.versions vs))
    by false at rest = rw (at, at) (ap (λ l. t ∷ l) (rest (is ∙ rw (at, at) refl) each.1))

-- what a report added is taken back
pub reported_back : (k : ScopeData) (n : ℕ) (vs : List TextMap) (ts : List TableData) → AreTables ts → n ≡ new_count k vs ts → taken_back k n (reported k vs ts) ≡ ts
reported_back k n [] ts are is = nothing_back k n ts (omega (arith, is)) are.2
reported_back k n (v ∷ vs) ts are is = report_back k n (v ∷ vs) ts is are.2

module _ (k : ScopeData) (n : ℕ) where
  pub missing_back : (es : Entries) → lookup (is_scope k) es ≡ None → taken_back k n (tables_of es) ≡ tables_of es
  missing_back [] none = refl
  missing_back (e ∷ es) none = by (is_scope k e.0) none (missing_back es)
    where
      by : (t : Bool) → cond t (Some e.1) (lookup (is_scope k) es) ≡ None → (lookup (is_scope k) es ≡ None → taken_back k n (tables_of es) ≡ tables_of es) → (if t then before e.0 (take (length e.1 - n) e.1) (tables_of es) else table_of e ∷ taken_back k n (tables_of es)) ≡ table_of e ∷ tables_of es
      by true absent rest = cc
      by false absent rest = ap (λ l. table_of e ∷ l) (rest absent)

  pub all_back : (es : Entries) (w : List TextMap) → lookup (is_scope k) es ≡ Some w → length w ≤ n → taken_back k n (tables_of es) ≡ tables_of (remove_entry (is_scope k) es)
  all_back [] w is all = cc
  all_back (e ∷ es) w is all = by (is_scope k e.0) is (all_back es w)
    where
      by : (t : Bool) → cond t (Some e.1) (lookup (is_scope k) es) ≡ Some w → (lookup (is_scope k) es ≡ Some w → length w ≤ n → taken_back k n (tables_of es) ≡ tables_of (remove_entry (is_scope k) es))
          → (if t then before e.0 (take (length e.1 - n) e.1) (tables_of es) else table_of e ∷ taken_back k n (tables_of es)) ≡ tables_of (cond t es (e ∷ remove_entry (is_scope k) es))
      by true same rest =
          let one : e.1 ≡ w = cc in
          let none : length e.1 - n ≡ 0 = omega (arith, ap length one, all) in
          ap (λ m. before e.0 (take m e.1) (tables_of es)) none
      by false same rest = ap (λ l. table_of e ∷ l) (rest same all)

  pub some_back : (es : Entries) (w : List TextMap) → lookup (is_scope k) es ≡ Some w → n < length w → taken_back k n (tables_of es) ≡ tables_of (put k (take (length w - n) w) es)
  some_back [] w is some = cc
  some_back (e ∷ es) w is some = by (is_scope k e.0) is (some_back es w)
    where
      by : (t : Bool) → cond t (Some e.1) (lookup (is_scope k) es) ≡ Some w → (lookup (is_scope k) es ≡ Some w → n < length w → taken_back k n (tables_of es) ≡ tables_of (put k (take (length w - n) w) es))
          → (if t then before e.0 (take (length e.1 - n) e.1) (tables_of es) else table_of e ∷ taken_back k n (tables_of es)) ≡ tables_of (if t then (e.0, take (length w - n) w) ∷ es else e ∷ put k (take (length w - n) w) es)
      by true same rest =
          let one : e.1 ≡ w = cc in
          let left : 0 < length (take (length w - n) w) = omega (arith, some, length-take (length w - n) w) in
          ap (λ l. before e.0 (take (length l - n) l) (tables_of es)) one ∙ before-some (record { scope = e.0; versions = take (length w - n) w }) _ (tables_of es) left refl
      by false same rest = ap (λ l. table_of e ∷ l) (rest same some)

-- what is left of entries that a report has made is what was there before
pub back : (k : ScopeData) (n : ℕ) (es : Entries) (vs : List TextMap) (ts : List TableData) → tables_of es ≡ reported k vs ts → AreTables ts → n ≡ new_count k vs ts → taken_back k n (tables_of es) ≡ ts
back k n es vs ts old are is = ap (taken_back k n) old ∙ reported_back k n vs ts are is
