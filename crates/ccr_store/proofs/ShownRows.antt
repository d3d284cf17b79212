-- The rows of a history, as the SELECTs show them.
use Rattle.std.proofs.Common.{◌≡◌, ◌⊎◌, inl, inr, ℕ, suc, pos, ◌+◌, ◌<◌, ◌≤◌, ◌^◌, List, [], ◌∷◌, ◌++◌, length, map, take, Option, Some, None, Less, nat_cmp, refl, sym, subst, ap₂, ◌∙◌, arith}
use Rattle.std.specs.List.{AllByRecursion}
use Rattle.std.specs.List.Sorted.{IsStrictlySortedBy}
use Rattle.std.specs.Cmp.Lexicographic.{slice_cmp}
use Rattle.std.proofs.lemmas.Cmp.{on_total}
use Rattle.std.proofs.lemmas.List.Sorted.{IsPermutation-sym, IsPermutation-trans}
use Rattle.sqlite_trees.specs.Tree.{IsAscending}
use Rattle.sqlite_trees.proofs.ListLemmas.{all_weaker, all_of, all-append, all-map, ascending-append, ascending-map, ascending_weaker}
use Rattle.sqlite_keyed.proofs.SortLemmas.{sorted_unique}
use Rattle.sqlite.specs.declared.types.Value.TheVariants.{Int}
use Rattle.sqlite.specs.Order.{Row}
use Rattle.sqlite_value.specs.Order.{row_cmp}
use Rattle.sqlite_value.proofs.OrderLemmas.{row_cmp_total}
use Rattle.ccr_history.specs.Text.{Text}
use Rattle.ccr_history.specs.TextMap.{TextMap}
use Rattle.ccr_history.specs.Tables.{TableData}
use Rattle.ccr_history.specs.Builds.{BuildData}
use Rattle.ccr_history.specs.History.{HistoryData, IsHistory}
use Rattle.ccr_tables.specs.Listing.{columns_cmp, IsListed}
use Rattle.ccr_store.specs.Listed.{AreSeen, AreBuilt, HasOther, listed_pairs, history_pairs, ListsSeen, ListsBuilt}
use Rattle.ccr_store.specs.Rows.{scope_row, scope_rows, version_row, version_rows, table_rows, build_row, build_rows, used_row, moved_row, disabled_rows, pin_row, meta_rows, rows_in, rows_of}
use Rattle.ccr_tables.specs.NamedRows.{IsNamedRow}
use Rattle.ccr_store.specs.Texts.{HasTexts}
use Rattle.ccr_store.specs.declared.format.Format.{Format}
use Rattle.ccr_store.proofs.ReadBuilds.{disabled_are, listed_pairs_are, numbers_few, build_rows_are}
use Rattle.ccr_store.proofs.ListedRows.{all_pairs_listed}
use Rattle.ccr_store.proofs.OneHistory.{all_pairs_up, Below, At, From, number_below, then_below, text_below, scopes_from, versions_at, places_from, tables_from, builds_from, from_names}

-- by so many of the first columns, the first row comes before the second
abbrev Key : ℕ → Row → Row → Type 0
Key width r s = columns_cmp width r s ≡ Less

-- rows that ascend so are shown in their own order
shown : (width : ℕ) (these rows : List Row) (up : IsAscending (Key width) these) (is : IsListed width these rows) → rows ≡ these
shown width these rows up is = sorted_unique (columns_cmp width) (on_total (take width) row_cmp_total) these rows up is.same is.ordered

-- ---- by their first number
key_below : (width id k : ℕ) (r s : Row) → id < k → At id r → From k s → Key (suc width) r s
key_below width id k r s less here there =
    let further : id < there.0 = omega (arith, there.1) in
    rw (here.1, there.2.1) (number_below id there.0 (take width here.0) (take width there.2.0) further)

key_all : (width id : ℕ) (r : Row) (ss : List Row) → At id r → AllByRecursion (From (id + 1)) ss → AllByRecursion (Key (suc width) r) ss
key_all width id r ss here h = all_weaker (From (id + 1)) (Key (suc width) r) (λ s there. key_below width id (id + 1) r s (omega arith) here there) ss h

meta_key : (f : Format) (t : Option Text) → IsAscending (Key 1) (meta_rows f t)
meta_key f None = (tt, tt)
meta_key f (Some t) = ((number_below 1 2 [] [] (omega arith), tt), (tt, tt))

scopes_key : (id : ℕ) (ts : List TableData) → IsAscending (Key 1) (scope_rows id ts)
scopes_key id [] = tt
scopes_key id (t ∷ ts) = (key_all 0 id (scope_row id t.scope) (scope_rows (id + 1) ts) (_, refl) (scopes_from (id + 1) ts), scopes_key (id + 1) ts)

builds_key : (id : ℕ) (bs : List BuildData) → IsAscending (Key 1) (build_rows id bs)
builds_key id [] = tt
builds_key id (b ∷ bs) = (key_all 0 id (build_row id b) (build_rows (id + 1) bs) (_, refl) (builds_from (id + 1) bs), builds_key (id + 1) bs)

-- ---- versions by scope and place
versions_key : (id place : ℕ) (vs : List TextMap) → IsAscending (Key 2) (version_rows id place vs)
versions_key id place [] = tt
versions_key id place (v ∷ vs) = (
  all_weaker (λ r. (k : ℕ) × (q : Row) × (place + 1 ≤ k) × (r ≡ Int (pos id) ∷ Int (pos k) ∷ q)) (Key 2 (version_row id place v))
      (λ r it.
      let further : place < it.0 = omega (arith, it.2) in
      rw (it.3) (then_below (Int (pos id)) (Int (pos place) ∷ []) (Int (pos it.0) ∷ []) (number_below place it.0 [] [] further)))
      (version_rows id (place + 1) vs) (places_from id (place + 1) vs),
  versions_key id (place + 1) vs,
)

tables_key : (id : ℕ) (ts : List TableData) → IsAscending (Key 2) (table_rows id ts)
tables_key id [] = tt
tables_key id (t ∷ ts) =
    ascending-append (Key 2) (version_rows id 1 t.versions) (table_rows (id + 1) ts) (versions_key id 1 t.versions) (tables_key (id + 1) ts)
    (all_weaker (At id) (λ r. AllByRecursion (Key 2 r) (table_rows (id + 1) ts)) (λ r here. key_all 1 id r (table_rows (id + 1) ts) here (tables_from (id + 1) ts)) (version_rows id 1 t.versions) (versions_at id 1 t.versions))

-- ---- pairs by all four columns
abbrev IsFour : Row → Type 0
IsFour r = take 4 r ≡ r

four_columns : (id : ℕ) (bs : List BuildData) → AllByRecursion IsFour (listed_pairs id bs)
four_columns id [] = tt
four_columns id (b ∷ bs) =
    all-append IsFour (map (moved_row id) b.moved ++ map (used_row id) b.used) (listed_pairs (id + 1) bs)
    (all-append IsFour (map (moved_row id) b.moved) (map (used_row id) b.used)
    (all-map IsFour (moved_row id) b.moved (all_of (λ p. IsFour (moved_row id p)) (λ p. refl) b.moved))
    (all-map IsFour (used_row id) b.used (all_of (λ u. IsFour (used_row id u)) (λ u. refl) b.used)))
    (four_columns (id + 1) bs)

all_four : (h : HistoryData) → AllByRecursion IsFour (history_pairs h)
all_four h =
    all-append IsFour (disabled_rows h.disabled) (listed_pairs 1 h.builds)
    (all-map IsFour (moved_row 0) h.disabled (all_of (λ p. IsFour (moved_row 0 p)) (λ p. refl) h.disabled)) (four_columns 1 h.builds)

by_all : (r : Row) (rows : List Row) → IsFour r → AllByRecursion IsFour rows → AllByRecursion (Below r) rows → AllByRecursion (Key 4 r) rows
by_all r [] one four h = tt
by_all r (s ∷ rows) one four h = (ap₂ row_cmp one four.0 ∙ h.0, by_all r rows one four.1 h.1)

pairs_key : (rows : List Row) → AllByRecursion IsFour rows → IsAscending Below rows → IsAscending (Key 4) rows
pairs_key [] four up = tt
pairs_key (r ∷ rows) four up = (by_all r rows four.0 four.1 up.0, pairs_key rows four.1 up.1)

-- ---- pins by resource
pins_key : (ps : List (Text × TextMap)) → IsStrictlySortedBy (slice_cmp nat_cmp) (map (λ p. p.0) ps) → IsAscending (Key 1) (map pin_row ps)
pins_key ps h =
    ascending-map (Key 1) pin_row ps (ascending_weaker (λ (p q : Text × TextMap). slice_cmp nat_cmp p.0 q.0 ≡ Less) (λ p q. Key 1 (pin_row p) (pin_row q)) (λ p q less. text_below p.0 q.0 [] [] less) ps (from_names (λ (p : Text × TextMap). p.0) ps h))

shown_pairs : (h : HistoryData) (pairs : List Row) → IsHistory h → IsListed 4 (rows_of h).pairs pairs → pairs ≡ history_pairs h
shown_pairs h pairs rules is =
    let given : IsListed 4 (history_pairs h) pairs = record { same = IsPermutation-trans (history_pairs h) (rows_of h).pairs pairs (IsPermutation-sym (rows_of h).pairs (history_pairs h) (all_pairs_listed h)) is.same; ordered = is.ordered } in
    shown 4 (history_pairs h) pairs (pairs_key (history_pairs h) (all_four h) (all_pairs_up h rules)) given

-- what the SELECTs show of a history's rows is what it lists
pub shown_seen : (f : Format) (h : HistoryData) (meta scopes versions : List Row) → AreSeen (rows_in f h) meta scopes versions → ListsSeen f h meta scopes versions
shown_seen f h meta scopes versions seen = record {
  set = shown 1 (meta_rows f h.text) meta (meta_key f h.text) seen.set;
  named = shown 1 (scope_rows 1 h.tables) scopes (scopes_key 1 h.tables) seen.named;
  reported = shown 2 (table_rows 1 h.tables) versions (tables_key 1 h.tables) seen.reported;
}

pub shown_built : (f : Format) (h : HistoryData) (builds pairs pins : List Row) → IsHistory h → AreBuilt (rows_in f h) builds pairs pins → ListsBuilt h builds pairs pins
shown_built f h builds pairs pins rules built = record {
  made = shown 1 (build_rows 1 h.builds) builds (builds_key 1 h.builds) built.made;
  given = shown_pairs h pairs rules built.given;
  held = shown 1 (map pin_row h.pins) pins (pins_key h.pins rules.2.0) built.held;
}

-- each row of a history's builds is a build, and each of its pairs a pair
pub all_builds : (h : HistoryData) → IsHistory h → HasTexts h → AllByRecursion IsNamedRow (build_rows 1 h.builds)
all_builds h rules texts =
    let few : 1 + length h.builds ≤ 2 ^ 32 = omega (arith, rules.1.0) in
    build_rows_are 1 h.builds few (numbers_few h.builds rules.1.1 rules.1.0) texts.builds

pub all_pairs : (h : HistoryData) → IsHistory h → HasTexts h → AllByRecursion IsNamedRow (history_pairs h)
all_pairs h rules texts =
    let few : 1 + length h.builds ≤ 2 ^ 32 = omega (arith, rules.1.0) in
    all-append IsNamedRow (disabled_rows h.disabled) (listed_pairs 1 h.builds) (disabled_are h.tables h.disabled rules.0 rules.3.1) (listed_pairs_are h.tables 1 h.builds few rules.0 rules.1.2 texts.builds)

pub no_other : (f : Format) (h : HistoryData) → IsHistory h → HasTexts h → HasOther IsNamedRow 1 (rows_in f h).builds ⊎ HasOther IsNamedRow 4 (rows_in f h).pairs → ⊥
no_other f h rules texts (inl other) =
    other.2 (subst (AllByRecursion IsNamedRow) (sym (shown 1 (build_rows 1 h.builds) other.0 (builds_key 1 h.builds) other.1)) (all_builds h rules texts))
no_other f h rules texts (inr other) =
    other.2 (subst (AllByRecursion IsNamedRow) (sym (shown_pairs h other.0 rules other.1)) (all_pairs h rules texts))
