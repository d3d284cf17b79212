-- The rows of a history say which history it is.
use Rattle.std.proofs.Common.{◌≡◌, ℕ, zero, suc, pos, ◌+◌, ◌<◌, ◌≤◌, List, [], ◌∷◌, ◌++◌, map, length, get_or, drop, Option, Some, None, refl, sym, ap, ap₂, ◌∙◌, subst, arith, Less, is_lt, nat_cmp, int_cmp, IsPermutation, false, ◌≢◌, AllPairs, IsTrue, inl, inr, ◌⊎◌}
use Rattle.std.specs.Prelude.{Bool, true, nat_lt}
use Rattle.std.proofs.lemmas.Bool.{ltb-true, ltb-false}
use Rattle.std.specs.List.{AllByRecursion}
use Rattle.std.specs.Ordering.{ordering_then, ordering_reverse}
use Rattle.std.specs.Cmp.Lexicographic.{slice_cmp}
use Rattle.std.proofs.lemmas.Cmp.{tied_itself}
use Rattle.std.proofs.lemmas.Bool.Decides.{nat_tests}
use Rattle.sqlite_trees.specs.Tree.{IsAscending}
use Rattle.sqlite_trees.proofs.ListLemmas.{all_of, all_weaker, all-append, all-map, all_from_map, ascending-append, ascending-map, ascending_weaker, ascending-get_or}
use Rattle.sqlite_keyed.proofs.SortLemmas.{sorted_unique}
use Rattle.sqlite.specs.declared.types.Value.{Value}
use Rattle.sqlite.specs.declared.types.Value.TheVariants.{Int, Text as Words, Blob}
use Rattle.sqlite.specs.Order.{Row}
use Rattle.sqlite_value.specs.Order.{row_cmp}
use Rattle.sqlite_value.proofs.OrderLemmas.{row_cmp_total, value_cmp_total, value_cmp-Int, value_cmp-Text}
use Rattle.std.specs.List.Sorted.{IsStrictlySortedBy}
use Rattle.std.proofs.lemmas.List.Elements.{recursion_from_All}
use Rattle.ccr_history.specs.Scopes.{ScopeData}
use Rattle.ccr_history.specs.Tables.{TableData}
use Rattle.ccr_history.specs.Builds.{UsedData, BuildData, is_before}
use Rattle.ccr_history.specs.History.{HistoryData, IsHistory, IsUsed, IsBuild, AreDisabled}
use Rattle.ccr_history.specs.Text.{Text}
use Rattle.ccr_history.specs.declared.build.Status.{Status}
use Rattle.ccr_history.specs.declared.build.Status.TheVariants.{Running, Succeeded, Failed, Errored, Aborted}
use Rattle.ccr_history.proofs.Lists.{pairs_head, pairs_tail}
use Rattle.ccr_store.specs.Listed.{listed_pairs, history_pairs}
use Rattle.ccr_history.specs.TextMap.{TextMap, key_text}
use Rattle.ccr_store.specs.Rows.{scope_row, scope_rows, version_row, version_rows, table_rows, build_row, build_rows, used_row, moved_row, disabled_rows, pin_row, meta_rows, status_number, rows_of}
use Rattle.ccr_store.specs.Reordered.{HasSameRows}
use Rattle.ccr_store.specs.declared.format.Format.TheVariants.{Two}
use Rattle.ccr_store.proofs.ListedRows.{all_pairs_listed}
use Rattle.std.proofs.lemmas.List.Sorted.{IsPermutation-sym, IsPermutation-trans}
use Rattle.sqlite_keyed.proofs.ListLemmas.{map_back}
use Rattle.ccr_store.proofs.OneMap.{one_map}

-- ---- rows in order
abbrev pub Below : Row → Row → Type 0
Below r s = row_cmp r s ≡ Less

not_below : (r s : Row) → Below r s → is_lt (row_cmp s r) ≡ false
not_below r s less = ap is_lt (row_cmp_total.antisymm s r ∙ ap ordering_reverse less)

-- rows that ascend stand in one order only
pub one_order : (xs ys : List Row) → IsAscending Below xs → IsAscending Below ys → IsPermutation xs ys → ys ≡ xs
one_order xs ys up rises same =
    sorted_unique row_cmp row_cmp_total xs ys up same (λ k d low high. not_below (get_or ys k d) (get_or ys (k + 1) d) (ascending-get_or Below ys k (k + 1) d rises (omega arith) (omega arith)))

int_less : (a b : ℕ) → a < b → int_cmp (pos a) (pos b) ≡ Less
int_less a b less = grind (arith, nat_tests)

pub number_below : (a b : ℕ) (r s : Row) → a < b → Below (Int (pos a) ∷ r) (Int (pos b) ∷ s)
number_below a b r s less = ap (λ o. ordering_then o (row_cmp r s)) (value_cmp-Int (pos a) (pos b) ∙ int_less a b less)

pub then_below : (v : Value) (r s : Row) → Below r s → Below (v ∷ r) (v ∷ s)
then_below v r s less = ap (λ o. ordering_then o (row_cmp r s)) (tied_itself value_cmp_total v) ∙ less

pub text_below : (s t : List ℕ) (r q : Row) → slice_cmp nat_cmp s t ≡ Less → Below (Words s ∷ r) (Words t ∷ q)
text_below s t r q less = ap (λ o. ordering_then o (row_cmp r q)) (value_cmp-Text s t ∙ less)

-- ---- rows by their first number
-- the row begins with this number; with it, or a greater one
abbrev pub At : ℕ → Row → Type 0
At id r = (q : Row) × (r ≡ Int (pos id) ∷ q)

abbrev pub From : ℕ → Row → Type 0
From id r = (k : ℕ) × (id ≤ k) × At k r

at_below : (id k : ℕ) (r s : Row) → id < k → At id r → From k s → Below r s
at_below id k r s less here there =
    let further : id < there.0 = omega (arith, there.1) in
    rw (here.1, there.2.1) (number_below id there.0 here.0 there.2.0 further)

later : (id : ℕ) (r : Row) → From (id + 1) r → From id r
later id r it = (it.0, omega (arith, it.1), it.2)

all_later : (id : ℕ) (rs : List Row) → AllByRecursion (From (id + 1)) rs → AllByRecursion (From id) rs
all_later id rs h = all_weaker (From (id + 1)) (From id) (later id) rs h

all_from : (id : ℕ) (rs : List Row) → AllByRecursion (At id) rs → AllByRecursion (From id) rs
all_from id rs h = all_weaker (At id) (From id) (λ r here. (id, omega arith, here)) rs h

below_all : (id : ℕ) (r : Row) (ss : List Row) → At id r → AllByRecursion (From (id + 1)) ss → AllByRecursion (Below r) ss
below_all id r ss here h = all_weaker (From (id + 1)) (Below r) (λ s there. at_below id (id + 1) r s (omega arith) here there) ss h

across : (id : ℕ) (rs ss : List Row) → AllByRecursion (At id) rs → AllByRecursion (From (id + 1)) ss → AllByRecursion (λ r. AllByRecursion (Below r) ss) rs
across id rs ss h k = all_weaker (At id) (λ r. AllByRecursion (Below r) ss) (λ r here. below_all id r ss here k) rs h

-- rows of one number, and rows of greater ones: where both are put together alike, they are alike
no_both : (id : ℕ) (r : Row) → At id r → From (id + 1) r → ⊥
no_both id r here there =
    let same : Int (pos id) ≡ Int (pos there.0) = ap (λ q. get_or q 0 (Int (pos 0))) (sym here.1 ∙ there.2.1) in
    let number : id ≡ there.0 = ap first_number same in
    omega (arith, number, there.1)
  where
    first_number : Value → ℕ
    first_number (Int (pos n)) = n
    first_number _ = 0

split_by : (P Q : Row → Type 0) → ((r : Row) → P r → Q r → ⊥) → (xs ys more rest_of : List Row) → AllByRecursion P xs → AllByRecursion P ys → AllByRecursion Q more → AllByRecursion Q rest_of
    → xs ++ more ≡ ys ++ rest_of → (xs ≡ ys) × (more ≡ rest_of)
split_by P Q never [] [] more rest_of h k p q e = (refl, e)
split_by P Q never [] (y ∷ ys) more rest_of h k p q e = absurd (never y k.0 (subst (AllByRecursion Q) e p).0)
split_by P Q never (x ∷ xs) [] more rest_of h k p q e = absurd (never x h.0 (subst (AllByRecursion Q) (sym e) q).0)
split_by P Q never (x ∷ xs) (y ∷ ys) more rest_of h k p q e =
    let rest = split_by P Q never xs ys more rest_of h.1 k.1 p q (ap (drop 1) e) in
    (ap₂ (λ (r : Row) (rs : List Row). r ∷ rs) (ap (λ rs. get_or rs 0 x) e) rest.0, rest.1)

-- ---- scopes
pub scopes_from : (id : ℕ) (ts : List TableData) → AllByRecursion (From id) (scope_rows id ts)
scopes_from id [] = tt
scopes_from id (t ∷ ts) = ((id, omega arith, (_, refl)), all_later id (scope_rows (id + 1) ts) (scopes_from (id + 1) ts))

scopes_up : (id : ℕ) (ts : List TableData) → IsAscending Below (scope_rows id ts)
scopes_up id [] = tt
scopes_up id (t ∷ ts) = (below_all id (scope_row id t.scope) (scope_rows (id + 1) ts) (_, refl) (scopes_from (id + 1) ts), scopes_up (id + 1) ts)

-- ---- versions
pub versions_at : (id place : ℕ) (vs : List TextMap) → AllByRecursion (At id) (version_rows id place vs)
versions_at id place [] = tt
versions_at id place (v ∷ vs) = ((_, refl), versions_at id (place + 1) vs)

pub places_from : (id place : ℕ) (vs : List TextMap) → AllByRecursion (λ r. (k : ℕ) × (q : Row) × (place ≤ k) × (r ≡ Int (pos id) ∷ Int (pos k) ∷ q)) (version_rows id place vs)
places_from id place [] = tt
places_from id place (v ∷ vs) =
    ((place, _, omega arith, refl), all_weaker (λ r. (k : ℕ) × (q : Row) × (place + 1 ≤ k) × (r ≡ Int (pos id) ∷ Int (pos k) ∷ q)) (λ r. (k : ℕ) × (q : Row) × (place ≤ k) × (r ≡ Int (pos id) ∷ Int (pos k) ∷ q)) (λ r it. (it.0, it.1, omega (arith, it.2), it.3)) (version_rows id (place + 1) vs) (places_from id (place + 1) vs))

versions_up : (id place : ℕ) (vs : List TextMap) → IsAscending Below (version_rows id place vs)
versions_up id place [] = tt
versions_up id place (v ∷ vs) = (
  all_weaker (λ r. (k : ℕ) × (q : Row) × (place + 1 ≤ k) × (r ≡ Int (pos id) ∷ Int (pos k) ∷ q)) (Below (version_row id place v))
      (λ r it.
      let further : place < it.0 = omega (arith, it.2) in
      rw (it.3) (then_below (Int (pos id)) (Int (pos place) ∷ Words (key_text v) ∷ []) (Int (pos it.0) ∷ it.1) (number_below place it.0 (Words (key_text v) ∷ []) it.1 further)))
      (version_rows id (place + 1) vs) (places_from id (place + 1) vs),
  versions_up id (place + 1) vs,
)

pub tables_from : (id : ℕ) (ts : List TableData) → AllByRecursion (From id) (table_rows id ts)
tables_from id [] = tt
tables_from id (t ∷ ts) =
    all-append (From id) (version_rows id 1 t.versions) (table_rows (id + 1) ts) (all_from id (version_rows id 1 t.versions) (versions_at id 1 t.versions)) (all_later id (table_rows (id + 1) ts) (tables_from (id + 1) ts))

tables_up : (id : ℕ) (ts : List TableData) → IsAscending Below (table_rows id ts)
tables_up id [] = tt
tables_up id (t ∷ ts) =
    ascending-append Below (version_rows id 1 t.versions) (table_rows (id + 1) ts) (versions_up id 1 t.versions) (tables_up (id + 1) ts)
    (across id (version_rows id 1 t.versions) (table_rows (id + 1) ts) (versions_at id 1 t.versions) (tables_from (id + 1) ts))

-- ---- which tables they are
abbrev third : Row → List ℕ
third (a ∷ b ∷ Words s ∷ r) = s
third _ = []

one_versions : (id place : ℕ) (vs ws : List TextMap) → version_rows id place vs ≡ version_rows id place ws → vs ≡ ws
one_versions id place [] [] e = refl
one_versions id place [] (w ∷ ws) e = absurd (omega (arith, ap length e))
one_versions id place (v ∷ vs) [] e = absurd (omega (arith, ap length e))
one_versions id place (v ∷ vs) (w ∷ ws) e =
    ap₂ (λ (u : TextMap) (us : List TextMap). u ∷ us) (one_map v w (ap (λ rs. third (get_or rs 0 [])) e)) (one_versions id (place + 1) vs ws (ap (drop 1) e))

abbrev scope_in : Row → ScopeData
scope_in (a ∷ Words r ∷ Words k ∷ Words s ∷ more) = record { resource = r; kind = k; source = s }
scope_in _ = record { resource = []; kind = []; source = [] }

one_tables : (id : ℕ) (ts us : List TableData) → scope_rows id ts ≡ scope_rows id us → table_rows id ts ≡ table_rows id us → ts ≡ us
one_tables id [] [] e d = refl
one_tables id [] (u ∷ us) e d = absurd (omega (arith, ap length e))
one_tables id (t ∷ ts) [] e d = absurd (omega (arith, ap length e))
one_tables id (t ∷ ts) (u ∷ us) e d =
    let parts = split_by (At id) (From (id + 1)) (no_both id) (version_rows id 1 t.versions) (version_rows id 1 u.versions) (table_rows (id + 1) ts) (table_rows (id + 1) us) (versions_at id 1 t.versions) (versions_at id 1 u.versions) (tables_from (id + 1) ts) (tables_from (id + 1) us) d in
    let scope : t.scope ≡ u.scope = ap (λ rs. scope_in (get_or rs 0 [])) e in
    let here : t ≡ u = ap₂ (λ (s : ScopeData) (vs : List TextMap). record { scope = s; versions = vs }) scope (one_versions id 1 t.versions u.versions parts.0) in
    ap₂ (λ (w : TableData) (ws : List TableData). w ∷ ws) here (one_tables (id + 1) ts us (ap (drop 1) e) parts.1)

-- ---- builds
pub builds_from : (id : ℕ) (bs : List BuildData) → AllByRecursion (From id) (build_rows id bs)
builds_from id [] = tt
builds_from id (b ∷ bs) = ((id, omega arith, (_, refl)), all_later id (build_rows (id + 1) bs) (builds_from (id + 1) bs))

builds_up : (id : ℕ) (bs : List BuildData) → IsAscending Below (build_rows id bs)
builds_up id [] = tt
builds_up id (b ∷ bs) = (below_all id (build_row id b) (build_rows (id + 1) bs) (_, refl) (builds_from (id + 1) bs), builds_up (id + 1) bs)

-- ---- pairs
pub from_pairs : {X : Type 0} (R : X → X → Type 0) (xs : List X) → AllPairs R xs → IsAscending R xs
from_pairs R [] h = tt
from_pairs R (x ∷ xs) h = (recursion_from_All (R x) xs (pairs_head R x xs h), from_pairs R xs (pairs_tail R x xs h))

pub from_names : {X : Type 0} (name : X → List ℕ) (xs : List X) → IsStrictlySortedBy (slice_cmp nat_cmp) (map name xs) → IsAscending (λ x y. slice_cmp nat_cmp (name x) (name y) ≡ Less) xs
unfolding IsStrictlySortedBy
from_names name [] h = tt
from_names name (x ∷ xs) h = (all_from_map (λ k. slice_cmp nat_cmp (name x) k ≡ Less) name xs h.0, from_names name xs h.1)

moved_below : (id : ℕ) (p q : ℕ × ℕ) → IsTrue (is_before p q) → Below (moved_row id p) (moved_row id q)
moved_below id p q before =
    then_below (Int (pos id)) (Words [] ∷ Int (pos p.0) ∷ Int (pos p.1) ∷ []) (Words [] ∷ Int (pos q.0) ∷ Int (pos q.1) ∷ [])
    (then_below (Words []) (Int (pos p.0) ∷ Int (pos p.1) ∷ []) (Int (pos q.0) ∷ Int (pos q.1) ∷ []) (by (below_or (nat_lt p.0 q.0) refl)))
  where
    below_or : (t : Bool) → nat_lt p.0 q.0 ≡ t → (p.0 < q.0) ⊎ (p.0 < q.0 → ⊥)
    below_or true e = inl (ltb-true p.0 q.0 e)
    below_or false e = inr (λ less. let no : q.0 ≤ p.0 = ltb-false p.0 q.0 e in omega (arith, no, less))

    first_or_same : (p.0 < q.0 → ⊥) → (p.0 ≡ q.0) × (p.1 < q.1)
    first_or_same above = grind (arith, nat_tests)

    by : (p.0 < q.0) ⊎ (p.0 < q.0 → ⊥) → Below (Int (pos p.0) ∷ Int (pos p.1) ∷ []) (Int (pos q.0) ∷ Int (pos q.1) ∷ [])
    by (inl less) = number_below p.0 q.0 (Int (pos p.1) ∷ []) (Int (pos q.1) ∷ []) less
    by (inr above) =
        let it = first_or_same above in
        rw (it.0) (then_below (Int (pos q.0)) (Int (pos p.1) ∷ []) (Int (pos q.1) ∷ []) (number_below p.1 q.1 [] [] it.1))

used_below : (id : ℕ) (u v : UsedData) → slice_cmp nat_cmp u.input v.input ≡ Less → Below (used_row id u) (used_row id v)
used_below id u v less =
    then_below (Int (pos id)) (Words u.input ∷ Int (pos u.scope) ∷ Int (pos u.place) ∷ []) (Words v.input ∷ Int (pos v.scope) ∷ Int (pos v.place) ∷ [])
    (text_below u.input v.input (Int (pos u.scope) ∷ Int (pos u.place) ∷ []) (Int (pos v.scope) ∷ Int (pos v.place) ∷ []) less)

empty_below : (s : List ℕ) → s ≢ [] → slice_cmp nat_cmp [] s ≡ Less
empty_below [] some = absurd (some refl)
empty_below (x ∷ xs) some = refl

between : (id : ℕ) (p : ℕ × ℕ) (u : UsedData) → u.input ≢ [] → Below (moved_row id p) (used_row id u)
between id p u some =
    then_below (Int (pos id)) (Words [] ∷ Int (pos p.0) ∷ Int (pos p.1) ∷ []) (Words u.input ∷ Int (pos u.scope) ∷ Int (pos u.place) ∷ [])
    (text_below [] u.input (Int (pos p.0) ∷ Int (pos p.1) ∷ []) (Int (pos u.scope) ∷ Int (pos u.place) ∷ []) (empty_below u.input some))

abbrev pub own : ℕ → BuildData → List Row
own id b = map (moved_row id) b.moved ++ map (used_row id) b.used

pub own_at : (id : ℕ) (b : BuildData) → AllByRecursion (At id) (own id b)
own_at id b =
    all-append (At id) (map (moved_row id) b.moved) (map (used_row id) b.used)
    (all-map (At id) (moved_row id) b.moved (all_of (λ p. At id (moved_row id p)) (λ p. (_, refl)) b.moved))
    (all-map (At id) (used_row id) b.used (all_of (λ u. At id (used_row id u)) (λ u. (_, refl)) b.used))

own_up : (id : ℕ) (tables : List TableData) (b : BuildData) → IsBuild tables b → IsAscending Below (own id b)
own_up id tables b rules =
    ascending-append Below (map (moved_row id) b.moved) (map (used_row id) b.used)
    (ascending-map Below (moved_row id) b.moved (ascending_weaker (λ p q. IsTrue (is_before p q)) (λ p q. Below (moved_row id p) (moved_row id q)) (moved_below id) b.moved (from_pairs (λ p q. IsTrue (is_before p q)) b.moved rules.2)))
    (ascending-map Below (used_row id) b.used (ascending_weaker (λ (u v : UsedData). slice_cmp nat_cmp u.input v.input ≡ Less) (λ u v. Below (used_row id u) (used_row id v)) (used_below id) b.used (from_names (λ (u : UsedData). u.input) b.used rules.0)))
    (all-map (λ r. AllByRecursion (Below r) (map (used_row id) b.used)) (moved_row id) b.moved
    (all_of (λ p. AllByRecursion (Below (moved_row id p)) (map (used_row id) b.used)) (λ p.
    all-map (Below (moved_row id p)) (used_row id) b.used (all_weaker (IsUsed tables) (λ u. Below (moved_row id p) (used_row id u)) (λ u it. between id p u it.0) b.used rules.1)) b.moved))

pub pairs_from : (id : ℕ) (bs : List BuildData) → AllByRecursion (From id) (listed_pairs id bs)
pairs_from id [] = tt
pairs_from id (b ∷ bs) = all-append (From id) (own id b) (listed_pairs (id + 1) bs) (all_from id (own id b) (own_at id b)) (all_later id (listed_pairs (id + 1) bs) (pairs_from (id + 1) bs))

pub pairs_up : (id : ℕ) (tables : List TableData) (bs : List BuildData) → AllByRecursion (IsBuild tables) bs → IsAscending Below (listed_pairs id bs)
pairs_up id tables [] h = tt
pairs_up id tables (b ∷ bs) h =
    ascending-append Below (own id b) (listed_pairs (id + 1) bs) (own_up id tables b h.0) (pairs_up (id + 1) tables bs h.1)
    (across id (own id b) (listed_pairs (id + 1) bs) (own_at id b) (pairs_from (id + 1) bs))

-- ---- disabled places
pub disabled_at : (ps : List (ℕ × ℕ)) → AllByRecursion (At 0) (disabled_rows ps)
disabled_at ps = all-map (At 0) (moved_row 0) ps (all_of (λ p. At 0 (moved_row 0 p)) (λ p. (_, refl)) ps)

disabled_up : (ts : List TableData) (ps : List (ℕ × ℕ)) → AreDisabled ts ps → IsAscending Below (disabled_rows ps)
disabled_up ts ps rules =
    ascending-map Below (moved_row 0) ps (ascending_weaker (λ p q. IsTrue (is_before p q)) (λ p q. Below (moved_row 0 p) (moved_row 0 q)) (moved_below 0) ps (from_pairs (λ p q. IsTrue (is_before p q)) ps rules.0))

pub all_pairs_up : (h : HistoryData) → IsHistory h → IsAscending Below (history_pairs h)
all_pairs_up h rules =
    ascending-append Below (disabled_rows h.disabled) (listed_pairs 1 h.builds) (disabled_up h.tables h.disabled rules.3) (pairs_up 1 h.tables h.builds rules.1.2)
    (across 0 (disabled_rows h.disabled) (listed_pairs 1 h.builds) (disabled_at h.disabled) (pairs_from 1 h.builds))

-- ---- which builds they are
abbrev second : Row → List ℕ
second (a ∷ Words s ∷ r) = s
second _ = []

abbrev moved_in : Row → ℕ × ℕ
moved_in (a ∷ t ∷ Int (pos k) ∷ Int (pos n) ∷ r) = (k, n)
moved_in _ = (0, 0)

abbrev used_in : Row → UsedData
used_in (a ∷ Words s ∷ Int (pos k) ∷ Int (pos n) ∷ r) = record { input = s; scope = k; place = n }
used_in _ = record { input = []; scope = 0; place = 0 }

abbrev status_of : ℕ → Status
status_of zero = Running
status_of (suc zero) = Succeeded
status_of (suc (suc zero)) = Failed
status_of (suc (suc (suc zero))) = Errored
status_of (suc (suc (suc (suc n)))) = Aborted

status_again : (s : Status) → status_of (status_number s) ≡ s
status_again Running = refl
status_again Succeeded = refl
status_again Failed = refl
status_again Errored = refl
status_again Aborted = refl

abbrev job_in : Row → List ℕ
job_in (a ∷ Words s ∷ r) = s
job_in _ = []

abbrev number_in : Row → ℕ
number_in (a ∷ t ∷ Int (pos n) ∷ r) = n
number_in _ = 0

abbrev status_in : Row → ℕ
status_in (a ∷ t ∷ n ∷ Int (pos s) ∷ r) = s
status_in _ = 0

abbrev built : List ℕ → ℕ → Status → List UsedData → List (ℕ × ℕ) → BuildData
built job number status used moved = record { job = job; number = number; status = status; used = used; moved = moved }

one_build : (id : ℕ) (b c : BuildData) → build_row id b ≡ build_row id c → b.used ≡ c.used → b.moved ≡ c.moved → b ≡ c
one_build id b c e used moved =
    let job : b.job ≡ c.job = ap job_in e in
    let number : b.number ≡ c.number = ap number_in e in
    let status : b.status ≡ c.status = sym (status_again b.status) ∙ ap status_of (ap status_in e) ∙ status_again c.status in
    ap₂ (λ j n. built j n b.status b.used b.moved) job number ∙ ap₂ (λ s u. built c.job c.number s u b.moved) status used
    ∙ ap (λ m. built c.job c.number c.status c.used m) moved

-- rows of moved pairs have no input, and those of used places have one
one_own : (id : ℕ) (t u : List TableData) (b c : BuildData) → IsBuild t b → IsBuild u c → own id b ≡ own id c → (b.used ≡ c.used) × (b.moved ≡ c.moved)
one_own id t u b c its those e =
    let none : (d : BuildData) → AllByRecursion (λ r. second r ≡ []) (map (moved_row id) d.moved) = λ d. all-map (λ r. second r ≡ []) (moved_row id) d.moved (all_of (λ p. second (moved_row id p) ≡ []) (λ p. refl) d.moved) in
    let some : (tables : List TableData) (d : BuildData) → IsBuild tables d → AllByRecursion (λ r. second r ≢ []) (map (used_row id) d.used) =
    λ tables d rules. all-map (λ r. second r ≢ []) (used_row id) d.used (all_weaker (IsUsed tables) (λ w. second (used_row id w) ≢ []) (λ w it. it.0) d.used rules.1) in
    let parts = split_by (λ r. second r ≡ []) (λ r. second r ≢ []) (λ r p q. q p) (map (moved_row id) b.moved) (map (moved_row id) c.moved) (map (used_row id) b.used) (map (used_row id) c.used) (none b) (none c) (some t b its) (some u c those) e in (
      sym (map_back (used_row id) used_in (λ w. refl) b.used) ∙ ap (map used_in) parts.1 ∙ map_back (used_row id) used_in (λ w. refl) c.used,
      sym (map_back (moved_row id) moved_in (λ w. refl) b.moved) ∙ ap (map moved_in) parts.0 ∙ map_back (moved_row id) moved_in (λ w. refl) c.moved,
    )

one_builds : (id : ℕ) (t u : List TableData) (bs cs : List BuildData) → AllByRecursion (IsBuild t) bs → AllByRecursion (IsBuild u) cs → build_rows id bs ≡ build_rows id cs → listed_pairs id bs ≡ listed_pairs id cs → bs ≡ cs
one_builds id t u [] [] h k e d = refl
one_builds id t u [] (c ∷ cs) h k e d = absurd (omega (arith, ap length e))
one_builds id t u (b ∷ bs) [] h k e d = absurd (omega (arith, ap length e))
one_builds id t u (b ∷ bs) (c ∷ cs) h k e d =
    let parts = split_by (At id) (From (id + 1)) (no_both id) (own id b) (own id c) (listed_pairs (id + 1) bs) (listed_pairs (id + 1) cs) (own_at id b) (own_at id c) (pairs_from (id + 1) bs) (pairs_from (id + 1) cs) d in
    let its = one_own id t u b c h.0 k.0 parts.0 in
    ap₂ (λ (x : BuildData) (xs : List BuildData). x ∷ xs) (one_build id b c (ap (λ rs. get_or rs 0 []) e) its.0 its.1) (one_builds (id + 1) t u bs cs h.1 k.1 (ap (drop 1) e) parts.1)

-- ---- pins
pin_below : (p q : Text × TextMap) → slice_cmp nat_cmp p.0 q.0 ≡ Less → Below (pin_row p) (pin_row q)
pin_below p q less = text_below p.0 q.0 (Words (key_text p.1) ∷ []) (Words (key_text q.1) ∷ []) less

pins_up : (ps : List (Text × TextMap)) → IsStrictlySortedBy (slice_cmp nat_cmp) (map (λ p. p.0) ps) → IsAscending Below (map pin_row ps)
pins_up ps h = ascending-map Below pin_row ps (ascending_weaker (λ (p q : Text × TextMap). slice_cmp nat_cmp p.0 q.0 ≡ Less) (λ p q. Below (pin_row p) (pin_row q)) pin_below ps (from_names (λ (p : Text × TextMap). p.0) ps h))

abbrev name_in : Row → List ℕ
name_in (Words s ∷ r) = s
name_in _ = []

one_pins : (ps qs : List (Text × TextMap)) → map pin_row ps ≡ map pin_row qs → ps ≡ qs
one_pins [] [] e = refl
one_pins [] (q ∷ qs) e = absurd (omega (arith, ap length e))
one_pins (p ∷ ps) [] e = absurd (omega (arith, ap length e))
one_pins (p ∷ ps) (q ∷ qs) e =
    let name : p.0 ≡ q.0 = ap (λ rs. name_in (get_or rs 0 [])) e in
    let body : p.1 ≡ q.1 = one_map p.1 q.1 (ap (λ rs. second (get_or rs 0 [])) e) in
    ap₂ (λ (x : Text × TextMap) (xs : List (Text × TextMap)). x ∷ xs) (ap₂ (λ (n : Text) (m : TextMap). (n, m)) name body) (one_pins ps qs (ap (drop 1) e))

-- ---- the text
meta_up : (t : Option Text) → IsAscending Below (meta_rows Two t)
meta_up None = (tt, tt)
meta_up (Some t) = ((number_below 1 2 (Blob (50 ∷ []) ∷ []) (Blob t ∷ []) (omega arith), tt), (tt, tt))

abbrev text_in : Row → List ℕ
text_in (a ∷ Blob t ∷ r) = t
text_in _ = []

one_text : (t u : Option Text) → meta_rows Two t ≡ meta_rows Two u → t ≡ u
one_text None None e = refl
one_text None (Some u) e = absurd (omega (arith, ap length e))
one_text (Some t) None e = absurd (omega (arith, ap length e))
one_text (Some t) (Some u) e = ap Some (ap (λ rs. text_in (get_or rs 1 [])) e)

-- ---- the history
abbrev made_of : List TableData → List BuildData → List (Text × TextMap) → List (ℕ × ℕ) → Option Text → HistoryData
made_of tables builds pins disabled text = record { tables = tables; builds = builds; pins = pins; disabled = disabled; text = text }

-- two histories with the same rows are one
pub one_history : (h k : HistoryData) → IsHistory h → IsHistory k → HasSameRows (rows_of h) (rows_of k) → h ≡ k
one_history h k its those same =
    let scopes = sym (one_order (scope_rows 1 h.tables) (scope_rows 1 k.tables) (scopes_up 1 h.tables) (scopes_up 1 k.tables) same.scopes) in
    let versions = sym (one_order (table_rows 1 h.tables) (table_rows 1 k.tables) (tables_up 1 h.tables) (tables_up 1 k.tables) same.versions) in
    let builds = sym (one_order (build_rows 1 h.builds) (build_rows 1 k.builds) (builds_up 1 h.builds) (builds_up 1 k.builds) same.builds) in
    let reordered : IsPermutation (history_pairs h) (history_pairs k) =
    IsPermutation-trans (history_pairs h) (rows_of h).pairs (history_pairs k) (IsPermutation-sym (rows_of h).pairs (history_pairs h) (all_pairs_listed h))
    (IsPermutation-trans (rows_of h).pairs (rows_of k).pairs (history_pairs k) same.pairs (all_pairs_listed k)) in
    let pairs = sym (one_order (history_pairs h) (history_pairs k) (all_pairs_up h its) (all_pairs_up k those) reordered) in
    let parts = split_by (At 0) (From 1) (no_both 0) (disabled_rows h.disabled) (disabled_rows k.disabled) (listed_pairs 1 h.builds) (listed_pairs 1 k.builds) (disabled_at h.disabled) (disabled_at k.disabled) (pairs_from 1 h.builds) (pairs_from 1 k.builds) pairs in
    let disabled : h.disabled ≡ k.disabled = sym (map_back (moved_row 0) moved_in (λ w. refl) h.disabled) ∙ ap (map moved_in) parts.0 ∙ map_back (moved_row 0) moved_in (λ w. refl) k.disabled in
    let pins = sym (one_order (map pin_row h.pins) (map pin_row k.pins) (pins_up h.pins its.2.0) (pins_up k.pins those.2.0) same.pins) in
    let meta = sym (one_order (meta_rows Two h.text) (meta_rows Two k.text) (meta_up h.text) (meta_up k.text) same.meta) in
    ap₂ (λ t b. made_of t b h.pins h.disabled h.text) (one_tables 1 h.tables k.tables scopes versions) (one_builds 1 h.tables k.tables h.builds k.builds its.1.2 those.1.2 builds parts.1)
    ∙ ap₂ (λ p t. made_of k.tables k.builds p h.disabled t) (one_pins h.pins k.pins pins) (one_text h.text k.text meta)
    ∙ ap (λ d. made_of k.tables k.builds k.pins d k.text) disabled
