-- What an edit writes under its numbers is what its change of the history writes.
use Rattle.std.proofs.Common.{◌≡◌, ℕ, ◌+◌, ◌≤◌, List, [], ◌∷◌, ◌++◌, map, length, not, Bool, true, false, cond, ◌||◌, eqb, Some, nat_lt, string_bytes, refl, sym, ap, ap₂, ◌∙◌, subst, arith}
use Rattle.std.proofs.lemmas.Bool.{cond-true, cond-false, or_parts, ltb-false}
use Rattle.std.proofs.lemmas.Bool.Decides.{nat_tests}
use Rattle.std.proofs.lemmas.List.{append_cancel_left}
use Rattle.std.specs.List.{AllByRecursion}
use Rattle.ccr_history.specs.declared.change.Edit.{Edit}
use Rattle.ccr_history.specs.declared.change.Edit.TheVariants as edit
use Rattle.ccr_history.specs.declared.change.Reported.{Reported}
use Rattle.ccr_history.specs.declared.table.TheConstants.{MOST_VERSIONS, MOST_SCOPES}
use Rattle.ccr_history.specs.Text.{Text}
use Rattle.ccr_history.specs.TextMap.{TextMap}
use Rattle.ccr_history.specs.Scopes.{ScopeData, is_scope}
use Rattle.ccr_history.specs.Tables.{TableData, with_versions, with_report, reported, versions_of, scope_number}
use Rattle.ccr_history.specs.Builds.{BuildData, is_build_of, build_of}
use Rattle.ccr_history.specs.Changes.{versions, edited, changed, Admits}
use Rattle.ccr_history.specs.Edits.{edit_data, change_data, row_of, AreNew, HasItsNumbers, Accepts}
use Rattle.ccr_history.specs.History.{HistoryData, IsHistory}
use Rattle.ccr_history.specs.Pairs.{has_pair}
use Rattle.sqlite.specs.Tree.{Trees}
use Rattle.ccr_tables.specs.Contents.{Keeps}
use Rattle.ccr_history.specs.Keys.{scope_equiv}
use Rattle.ccr_history.proofs.NewVersions.{new_alone}
use Rattle.ccr_store.specs.Reordered.{HasSameRows}
use Rattle.ccr_store.specs.Rows.{status_number, rows_of}
use Rattle.ccr_store.specs.WriteData.{WriteData, all_made}
use Rattle.ccr_store.specs.WriteData as write
use Rattle.ccr_store.specs.Writes.{version_writes, used_write, moved_write, scope_writes, report_writes, edit_writes, change_writes, HasPlaces}
use Rattle.ccr_store.proofs.HistoryWrites.{has_scope, scope_id, new_versions, build_id, writes_of, all_writes_of}
use Rattle.ccr_store.proofs.ReportRows.{new_versions-are}
use Rattle.ccr_store.proofs.ChangeRows.{change_rows, changes_rows, changes_kept}

-- ---- numbers of scopes
scope_id-least : (k : ℕ) (s : ScopeData) (ts : List TableData) → k ≤ scope_id k s ts
scope_id-least k s [] = omega arith
scope_id-least k s (t ∷ ts) = by (is_scope s t.scope) (scope_id-least (k + 1) s ts)
  where
    by : (b : Bool) → k + 1 ≤ scope_id (k + 1) s ts → k ≤ cond b k (scope_id (k + 1) s ts)
    by true more = omega arith
    by false more = omega arith

next_number : (k n : ℕ) → 1 ≤ n → cond (eqb n 0) 0 (n + 1) + k ≡ n + (k + 1)
next_number k n some = grind (arith, nat_tests)

reported_number : (k : ℕ) (s : ScopeData) (seen : List TextMap) (ts : List TableData) → scope_number s (with_report s seen ts) + k ≡ scope_id (k + 1) s ts
reported_number k s seen [] = ap (λ n. n + k) (cond-true (is_scope s s) 1 0 (scope_equiv.refl s)) ∙ omega arith
reported_number k s seen (t ∷ ts) = by (is_scope s t.scope) refl (reported_number 0 s seen ts) (reported_number (k + 1) s seen ts)
  where
    by : (b : Bool) → is_scope s t.scope ≡ b → scope_number s (with_report s seen ts) + 0 ≡ scope_id 1 s ts → scope_number s (with_report s seen ts) + (k + 1) ≡ scope_id (k + 1 + 1) s ts
        → scope_number s (cond b (record { scope = t.scope; versions = with_versions t.versions seen } ∷ ts) (t ∷ with_report s seen ts)) + k ≡ cond b (k + 1) (scope_id (k + 1 + 1) s ts)
    by true same first later = ap (λ n. n + k) (cond-true (is_scope s t.scope) 1 _ same) ∙ omega arith
    by false other first later =
        let least = scope_id-least 1 s ts in
        ap (λ n. n + k) (cond-false (is_scope s t.scope) 1 _ other)
        ∙ next_number k (scope_number s (with_report s seen ts)) (omega arith)
        ∙ later

pub report_number : (s : ScopeData) (seen : List TextMap) (ts : List TableData) → scope_number s (with_report s seen ts) ≡ scope_id 1 s ts
report_number s seen ts = let it = reported_number 0 s seen ts in omega arith

still_none : (n : ℕ) → eqb (cond (eqb n 0) 0 (n + 1)) 0 ≡ eqb n 0
still_none n = grind (arith, nat_tests)

pub known_scope : (s : ScopeData) (ts : List TableData) → has_scope s ts ≡ not (eqb (scope_number s ts) 0)
known_scope s [] = refl
known_scope s (t ∷ ts) = by (is_scope s t.scope) (scope_number s ts) (known_scope s ts)
  where
    by : (b : Bool) (n : ℕ) → has_scope s ts ≡ not (eqb n 0) → (b || has_scope s ts) ≡ not (eqb (cond b 1 (cond (eqb n 0) 0 (n + 1))) 0)
    by true n e = refl
    by false n e = e ∙ ap not (sym (still_none n))

-- ---- a report
turned : (xs : List WriteData) (b k : Bool) → k ≡ not b → cond b xs [] ≡ cond k [] xs
turned xs true true e = absurd (cc)
turned xs true false e = refl
turned xs false true e = refl
turned xs false false e = absurd (cc)

flipped : (xs : List WriteData) (b k : Bool) → b ≡ not k → cond b xs [] ≡ cond k [] xs
flipped xs true true e = absurd (cc)
flipped xs true false e = refl
flipped xs false true e = refl
flipped xs false false e = absurd (cc)

-- versions that are all new are the new ones
only_new : (known vs : List TextMap) → AreNew known vs → new_versions known vs ≡ vs
only_new known vs new = append_cancel_left known (new_versions known vs) vs (sym (new_versions-are known vs) ∙ new)

report_same : (r : Reported) (vs : List TextMap) (h : HistoryData) → r.number ≡ scope_number r.scope (reported r.scope vs h.tables) → r.is_new ≡ eqb (scope_number r.scope h.tables) 0 → r.first ≡ length (versions_of r.scope h.tables) + 1
    → AreNew (versions_of r.scope h.tables) vs → report_writes r vs ≡ writes_of (versions r.scope vs) h
report_same r [] h number is_new first new = refl
report_same r (v ∷ vs) h number is_new first new =
    let s : ScopeData = r.scope in
    let id_is : r.number ≡ scope_id 1 s h.tables = number ∙ report_number s (v ∷ vs) h.tables in
    ap₂ (λ (i p : ℕ). scope_writes r.is_new i s ++ version_writes i p (v ∷ vs)) id_is first
    ∙ ap (λ (ws : List TextMap). scope_writes r.is_new (scope_id 1 s h.tables) s ++ version_writes (scope_id 1 s h.tables) (length (versions_of s h.tables) + 1) ws) (sym (only_new (versions_of s h.tables) (v ∷ vs) new))
    ∙ ap (λ (b : Bool). cond b (write.scope (scope_id 1 s h.tables) s.resource s.kind s.source ∷ []) [] ++ version_writes (scope_id 1 s h.tables) (length (versions_of s h.tables) + 1) (new_versions (versions_of s h.tables) (v ∷ vs))) is_new
    ∙ ap (λ (ws : List WriteData). ws ++ version_writes (scope_id 1 s h.tables) (length (versions_of s h.tables) + 1) (new_versions (versions_of s h.tables) (v ∷ vs)))
    (turned (write.scope (scope_id 1 s h.tables) s.resource s.kind s.source ∷ []) (eqb (scope_number s h.tables) 0) (has_scope s h.tables) (known_scope s h.tables))

-- ---- a build that ends
id-least : (k : ℕ) (job : Text) (number : ℕ) (bs : List BuildData) → k ≤ build_id k job number bs
id-least k job number [] = omega arith
id-least k job number (b ∷ bs) = by (is_build_of job number b) (id-least (k + 1) job number bs)
  where
    by : (t : Bool) → k + 1 ≤ build_id (k + 1) job number bs → k ≤ cond t k (build_id (k + 1) job number bs)
    by true more = omega arith
    by false more = omega arith

row_id : (k : ℕ) (job : Text) (number : ℕ) (bs : List BuildData) (b : BuildData) → build_of job number bs ≡ Some b → row_of job number bs + k ≡ build_id (k + 1) job number bs
row_id k job number [] b found = absurd (cc)
row_id k job number (c ∷ bs) b found = by (is_build_of job number c) found (λ later. row_id 0 job number bs b later) (λ later. row_id (k + 1) job number bs b later) (λ later. id-least 1 job number bs)
  where
    by : (t : Bool) → cond t (Some c) (build_of job number bs) ≡ Some b → (build_of job number bs ≡ Some b → row_of job number bs + 0 ≡ build_id 1 job number bs) → (build_of job number bs ≡ Some b → row_of job number bs + (k + 1) ≡ build_id (k + 1 + 1) job number bs)
        → (build_of job number bs ≡ Some b → 1 ≤ build_id 1 job number bs)
        → cond t 1 (cond (eqb (row_of job number bs) 0) 0 (row_of job number bs + 1)) + k ≡ cond t (k + 1) (build_id (k + 1 + 1) job number bs)
    by true found first later least = omega arith
    by false found first later least = let one = first found in let some = least found in next_number k (row_of job number bs) (omega arith) ∙ later found

pub row_is : (job : Text) (number : ℕ) (bs : List BuildData) (b : BuildData) → build_of job number bs ≡ Some b → row_of job number bs ≡ build_id 1 job number bs
row_is job number bs b found = let it = row_id 0 job number bs b found in omega arith

-- ---- each edit, and many
pub edit_same : (e : Edit) (h : HistoryData) → Admits h (edit_data e) → HasItsNumbers h e → edit_writes e ≡ writes_of (edit_data e) h
edit_same (edit.Text bytes) h takes numbers = refl
edit_same (edit.Versions r) h takes numbers = report_same r r.versions.items h numbers.0 numbers.1 numbers.2 numbers.3
edit_same (edit.Build b) h takes numbers =
    ap₂ (λ (n m : ℕ). write.build n (string_bytes b.job) m 0 ∷ map (used_write n) b.used.items) numbers.0 numbers.1
edit_same (edit.Ended e) h takes numbers =
    ap (λ (id : ℕ). write.status id (status_number e.status) ∷ map (moved_write id) e.moved.items) (numbers ∙ row_is (string_bytes e.job) e.number h.builds takes.0.0 takes.0.1)
edit_same (edit.PinSet resource pin) h takes numbers = refl
edit_same (edit.PinCleared resource) h takes numbers = refl
edit_same (edit.Disabled s) h takes numbers = flipped (write.pair 0 [] s.scope s.place ∷ []) s.is_changed (has_pair (s.scope, s.place) h.disabled) numbers
edit_same (edit.Enabled s) h takes numbers = ap (λ (b : Bool). cond b (write.no_pair 0 [] s.scope s.place ∷ []) []) numbers

pub change_same : (es : List Edit) (h : HistoryData) → Accepts h es → change_writes es ≡ all_writes_of (change_data es) h
change_same [] h accepts = refl
change_same (e ∷ es) h accepts =
    ap₂ (λ (ws vs : List WriteData). ws ++ vs) (edit_same e h accepts.0.0 accepts.1.0) (change_same es (edited (edit_data e) h) (accepts.0.1, accepts.1.1))

-- ---- the rows
pub edit_rows : (e : Edit) (h : HistoryData) → IsHistory h → Admits h (edit_data e) → HasItsNumbers h e → HasSameRows (rows_of (edited (edit_data e) h)) (all_made (edit_writes e) (rows_of h))
edit_rows e h rules takes numbers =
    subst (λ (ws : List WriteData). HasSameRows (rows_of (edited (edit_data e) h)) (all_made ws (rows_of h))) (sym (edit_same e h takes numbers)) (change_rows (edit_data e) h rules takes)

pub edits_rows : (es : List Edit) (h : HistoryData) → IsHistory h → Accepts h es → HasSameRows (rows_of (changed (change_data es) h)) (all_made (change_writes es) (rows_of h))
edits_rows es h rules accepts =
    subst (λ (ws : List WriteData). HasSameRows (rows_of (changed (change_data es) h)) (all_made ws (rows_of h))) (sym (change_same es h accepts)) (changes_rows (change_data es) h rules accepts.0)

-- trees that show what the writes make show the rows of the changed history
pub edits_kept : (es : List Edit) (h : HistoryData) (trees : Trees) → IsHistory h → Accepts h es → Keeps (all_made (change_writes es) (rows_of h)) trees → Keeps (rows_of (changed (change_data es) h)) trees
edits_kept es h trees rules accepts made =
    changes_kept (change_data es) h trees rules accepts.0 (subst (λ (ws : List WriteData). Keeps (all_made ws (rows_of h)) trees) (change_same es h accepts) made)

-- ---- places
-- reported versions have places of a table
has_places : (e : Edit) (h : HistoryData) → Admits h (edit_data e) → HasItsNumbers h e → HasPlaces e
has_places (edit.Text bytes) h takes numbers = tt
has_places (edit.Versions r) h takes numbers =
    let all = new_alone r.scope r.versions.items h.tables numbers.3 in
    let fits : length (versions_of r.scope (reported r.scope r.versions.items h.tables)) ≤ MOST_VERSIONS =
    ltb-false _ _ (or_parts (nat_lt MOST_VERSIONS (length (versions_of r.scope (reported r.scope r.versions.items h.tables)))) (nat_lt MOST_SCOPES (length (reported r.scope r.versions.items h.tables))) takes.0).0 in
    omega (arith, all, fits, numbers.2)
has_places (edit.Build b) h takes numbers = tt
has_places (edit.Ended e) h takes numbers = tt
has_places (edit.PinSet resource pin) h takes numbers = tt
has_places (edit.PinCleared resource) h takes numbers = tt
has_places (edit.Disabled s) h takes numbers = tt
has_places (edit.Enabled s) h takes numbers = tt

pub all_have_places : (es : List Edit) (h : HistoryData) → Accepts h es → AllByRecursion HasPlaces es
all_have_places [] h accepts = tt
all_have_places (e ∷ es) h accepts = (has_places e h accepts.0.0 accepts.1.0, all_have_places es (edited (edit_data e) h) (accepts.0.1, accepts.1.1))
