-- Reports keep the rules of version tables, and each place that there was.
use Rattle.std.proofs.Common.{◌≡◌, ℕ, ◌-◌, ◌<◌, ◌≤◌, List, [], ◌∷◌, ◌++◌, length, Bool, true, false, ◌==◌, cond, nat_lt, nat_le, IsTrue, AllPairs, sym, ap, ◌∙◌, subst, arith, le_refl}
use Rattle.std.specs.List.{AllByRecursion}
use Rattle.std.proofs.lemmas.Bool.{cond_both, cond-true, cond-false, and_from, and_parts, or_parts, leb-true, le-leb, ltb-false}
use Rattle.std.proofs.lemmas.List.Elements.{All-from_recursion, recursion_from_All}
use Rattle.std.proofs.lemmas.List.Kept.{AllPairs-cons}
use Rattle.ccr_history.specs.declared.table.TheConstants.{MOST_VERSIONS, MOST_SCOPES}
use Rattle.ccr_history.specs.TextMap.{TextMap, IsAscending, is_version}
use Rattle.ccr_history.specs.Scopes.{ScopeData, is_scope}
use Rattle.ccr_history.specs.Tables.{TableData, has_version, with_version, with_versions, with_report, reported, versions_of, is_table_full}
use Rattle.ccr_history.specs.History.{IsTable, AreTables, places_at, has_place}
use Rattle.ccr_history.specs.Keys.{scope_equiv, version_equiv}
use Rattle.ccr_history.proofs.VersionLists.{with_versions-longer, with_versions-some}
use Rattle.ccr_history.proofs.Lists.{each_push, pairs_none, pairs_one, pairs_head, pairs_tail, apart_push}

-- ---- versions that come to a list
abbrev NoneTwice : List TextMap → Type 0
NoneTwice vs = AllPairs (λ v w. is_version v w ≡ false) vs

apart : (vs : List TextMap) (v : TextMap) → NoneTwice vs → NoneTwice (with_version vs v)
apart vs v h = cond_both (has_version vs v) vs (vs ++ v ∷ []) NoneTwice (λ _. h) (λ none. apart_push is_version version_equiv.symm vs v h none)

all_apart : (vs ws : List TextMap) → NoneTwice vs → NoneTwice (with_versions vs ws)
all_apart vs [] h = h
all_apart vs (w ∷ ws) h = all_apart (with_version vs w) ws (apart vs w h)

up : (vs : List TextMap) (v : TextMap) → AllByRecursion IsAscending vs → IsAscending v → AllByRecursion IsAscending (with_version vs v)
up vs v h one = cond_both (has_version vs v) vs (vs ++ v ∷ []) (AllByRecursion IsAscending) (λ _. h) (λ _. each_push IsAscending vs v h one)

all_up : (vs ws : List TextMap) → AllByRecursion IsAscending vs → AllByRecursion IsAscending ws → AllByRecursion IsAscending (with_versions vs ws)
all_up vs [] h new = h
all_up vs (w ∷ ws) h new = all_up (with_version vs w) ws (up vs w h new.0) new.1

-- ---- the table of the report's scope
-- after a report its scope has the versions that it had, and those of the report behind them
pub versions_of-with_report : (s : ScopeData) (ws : List TextMap) (ts : List TableData) → versions_of s (with_report s ws ts) ≡ with_versions (versions_of s ts) ws
versions_of-with_report s ws [] = cond-true (is_scope s s) (with_versions [] ws) [] (scope_equiv.refl s)
versions_of-with_report s ws (t ∷ ts) =
    cond_both (is_scope s t.scope) (record { scope = t.scope; versions = with_versions t.versions ws } ∷ ts) (t ∷ with_report s ws ts)
    (λ l. versions_of s l ≡ with_versions (versions_of s (t ∷ ts)) ws)
    (λ e. cond-true (is_scope s t.scope) (with_versions t.versions ws) (versions_of s ts) e ∙ ap (λ vs. with_versions vs ws) (sym (cond-true (is_scope s t.scope) t.versions (versions_of s ts) e)))
    (λ e. cond-false (is_scope s t.scope) t.versions (versions_of s (with_report s ws ts)) e ∙ versions_of-with_report s ws ts
    ∙ ap (λ vs. with_versions vs ws) (sym (cond-false (is_scope s t.scope) t.versions (versions_of s ts) e)))

-- the versions of a report fit where the table is not full
abbrev Fits : ScopeData → List TextMap → List TableData → Type 0
Fits s ws ts = length (with_versions (versions_of s ts) ws) ≤ MOST_VERSIONS

grown_table : (s : ScopeData) (t : TableData) (ws : List TextMap) → IsTable t → AllByRecursion IsAscending ws → length (with_versions t.versions ws) ≤ MOST_VERSIONS → IsTable (record { scope = s; versions = with_versions t.versions ws })
grown_table s t ws h new fits =
    let some : 0 < length t.versions = h.0 in
    let grown : length t.versions ≤ length (with_versions t.versions ws) = with_versions-longer t.versions ws in
    (omega arith, fits, all_apart t.versions ws h.2, all_up t.versions ws h.3 new)

new_table : (s : ScopeData) (w : TextMap) (ws : List TextMap) → AllByRecursion IsAscending (w ∷ ws) → length (with_versions [] (w ∷ ws)) ≤ MOST_VERSIONS → IsTable (record { scope = s; versions = with_versions [] (w ∷ ws) })
new_table s w ws new fits =
    (with_versions-some [] (w ∷ ws) (omega arith), fits, all_apart [] (w ∷ ws) (pairs_none (λ v x. is_version v x ≡ false)), all_up [] (w ∷ ws) tt new)

each_table : (s : ScopeData) (w : TextMap) (ws : List TextMap) (ts : List TableData) → AllByRecursion IsAscending (w ∷ ws) → Fits s (w ∷ ws) ts → AllByRecursion IsTable ts → AllByRecursion IsTable (with_report s (w ∷ ws) ts)
each_table s w ws [] new fits h = (new_table s w ws new fits, tt)
each_table s w ws (t ∷ ts) new fits h =
    cond_both (is_scope s t.scope) (record { scope = t.scope; versions = with_versions t.versions (w ∷ ws) } ∷ ts) (t ∷ with_report s (w ∷ ws) ts)
    (AllByRecursion IsTable)
    (λ e. (grown_table t.scope t (w ∷ ws) h.0 new (at (cond-true (is_scope s t.scope) t.versions (versions_of s ts) e)), h.1))
    (λ e. (h.0, each_table s w ws ts new (at (cond-false (is_scope s t.scope) t.versions (versions_of s ts) e)) h.1))
  where
    at : {vs : List TextMap} → versions_of s (t ∷ ts) ≡ vs → length (with_versions vs (w ∷ ws)) ≤ MOST_VERSIONS
    at e = subst (λ (us : List TextMap). length (with_versions us (w ∷ ws)) ≤ MOST_VERSIONS) e fits

-- ---- scopes
abbrev pub Apart : TableData → TableData → Type 0
Apart s t = is_scope s.scope t.scope ≡ false

each_apart : (r : TableData) (s : ScopeData) (ws : List TextMap) (ts : List TableData) → is_scope r.scope s ≡ false → AllByRecursion (Apart r) ts → AllByRecursion (Apart r) (with_report s ws ts)
each_apart r s ws [] other h = (other, tt)
each_apart r s ws (t ∷ ts) other h =
    cond_both (is_scope s t.scope) (record { scope = t.scope; versions = with_versions t.versions ws } ∷ ts) (t ∷ with_report s ws ts)
    (AllByRecursion (Apart r)) (λ _. (h.0, h.1)) (λ _. (h.0, each_apart r s ws ts other h.1))

scopes_apart : (s : ScopeData) (ws : List TextMap) (ts : List TableData) → AllPairs Apart ts → AllPairs Apart (with_report s ws ts)
scopes_apart s ws [] h = pairs_one Apart (record { scope = s; versions = with_versions [] ws })
scopes_apart s ws (t ∷ ts) h =
    cond_both (is_scope s t.scope) (record { scope = t.scope; versions = with_versions t.versions ws } ∷ ts) (t ∷ with_report s ws ts)
    (AllPairs Apart)
    (λ _. AllPairs-cons Apart (record { scope = t.scope; versions = with_versions t.versions ws }) ts (pairs_head Apart t ts h) (pairs_tail Apart t ts h))
    (λ other. AllPairs-cons Apart t (with_report s ws ts)
    (All-from_recursion (Apart t) (with_report s ws ts)
    (each_apart t s ws ts (scope_equiv.symm t.scope s ∙ other) (recursion_from_All (Apart t) ts (pairs_head Apart t ts h))))
    (scopes_apart s ws ts (pairs_tail Apart t ts h)))

-- ---- reports keep the rules
tables_with : (s : ScopeData) (w : TextMap) (ws : List TextMap) (ts : List TableData) → AreTables ts → AllByRecursion IsAscending (w ∷ ws) → is_table_full s (w ∷ ws) ts ≡ false → AreTables (with_report s (w ∷ ws) ts)
tables_with s w ws ts h new room =
    let parts = or_parts (nat_lt MOST_VERSIONS (length (versions_of s (with_report s (w ∷ ws) ts)))) (nat_lt MOST_SCOPES (length (with_report s (w ∷ ws) ts))) room in
    let within : length (versions_of s (with_report s (w ∷ ws) ts)) ≤ MOST_VERSIONS = ltb-false _ _ parts.0 in
    let fits : Fits s (w ∷ ws) ts = subst (λ (vs : List TextMap). length vs ≤ MOST_VERSIONS) (versions_of-with_report s (w ∷ ws) ts) within in
    (ltb-false _ _ parts.1, scopes_apart s (w ∷ ws) ts h.1, each_table s w ws ts new fits h.2)

pub tables_kept : (s : ScopeData) (vs : List TextMap) (ts : List TableData) → AreTables ts → AllByRecursion IsAscending vs → is_table_full s vs ts ≡ false → AreTables (reported s vs ts)
tables_kept s [] ts h new room = h
tables_kept s (v ∷ vs) ts h new room = tables_with s v vs ts h new room

-- ---- reports keep each place
-- each place of the first tables is one of the second
abbrev pub Keeps : List TableData → List TableData → Type 0
Keeps ts us = (n : ℕ) → places_at ts n ≤ places_at us n

both_below : (b : Bool) (x y u v : ℕ) → x ≤ u → y ≤ v → cond b x y ≤ cond b u v
both_below true x y u v one other = one
both_below false x y u v one other = other

places_with : (s : ScopeData) (ws : List TextMap) (ts : List TableData) → Keeps ts (with_report s ws ts)
places_with s ws [] n = omega arith
places_with s ws (t ∷ ts) n =
    cond_both (is_scope s t.scope) (record { scope = t.scope; versions = with_versions t.versions ws } ∷ ts) (t ∷ with_report s ws ts)
    (λ l. places_at (t ∷ ts) n ≤ places_at l n)
    (λ _. both_below (n == 1) _ _ _ _ (with_versions-longer t.versions ws) (le_refl (places_at ts (n - 1))))
    (λ _. both_below (n == 1) _ _ _ _ (le_refl (length t.versions)) (places_with s ws ts (n - 1)))

pub places_kept : (s : ScopeData) (vs : List TextMap) (ts : List TableData) → Keeps ts (reported s vs ts)
places_kept s [] ts = λ n. le_refl (places_at ts n)
places_kept s (v ∷ vs) ts = places_with s (v ∷ vs) ts

pub place_kept : (ts us : List TableData) → Keeps ts us → (scope place : ℕ) → IsTrue (has_place ts scope place) → IsTrue (has_place us scope place)
place_kept ts us keeps scope place h =
    let parts = and_parts (nat_lt 0 place) (nat_le place (places_at ts scope)) h in
    let below : place ≤ places_at us scope = omega (arith, leb-true place (places_at ts scope) parts.1, keeps scope) in
    and_from _ _ parts.0 (le-leb place (places_at us scope) below)
