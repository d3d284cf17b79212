-- The rows of a report: its scope, if it is new, and its new versions.
use Rattle.std.proofs.Common.{◌≡◌, ℕ, ◌+◌, List, [], ◌∷◌, ◌++◌, length, Bool, true, false, cond, ◌||◌, sym, ap, ◌∙◌, arith, IsPermutation}
use Rattle.std.proofs.lemmas.List.{append_assoc, append-nil}
use Rattle.std.proofs.lemmas.List.Sorted.{IsPermutation-refl, IsPermutation-trans, IsPermutation-cons, IsPermutation-append_right}
use Rattle.sqlite.specs.Order.{Row}
use Rattle.sqlite_keyed.proofs.ListLemmas.{IsPermutation-same}
use Rattle.ccr_history.specs.TextMap.{TextMap}
use Rattle.ccr_history.specs.Scopes.{ScopeData, is_scope}
use Rattle.ccr_history.specs.Tables.{TableData, has_version, with_versions, with_report, versions_of}
use Rattle.ccr_tables.specs.Contents.{Contents}
use Rattle.ccr_store.specs.Rows.{scope_row, scope_rows, version_row, version_rows, table_rows}
use Rattle.ccr_store.specs.Writes.{version_writes}
use Rattle.ccr_store.proofs.HistoryWrites.{has_scope, scope_id, new_versions}
use Rattle.ccr_store.specs.WriteData.{all_made}
use Rattle.ccr_store.specs.WriteData as write
use Rattle.ccr_store.specs.Reordered.{HasSameRows}
use Rattle.ccr_store.proofs.SameRows.{swapped, same_rows, then_rows}

-- ---- versions
pub new_versions-are : (known vs : List TextMap) → with_versions known vs ≡ known ++ new_versions known vs
new_versions-are known [] = sym (append-nil known)
new_versions-are known (v ∷ vs) = by (has_version known v) (new_versions-are known vs) (new_versions-are (known ++ v ∷ []) vs)
  where
    by : (b : Bool) → with_versions known vs ≡ known ++ new_versions known vs → with_versions (known ++ v ∷ []) vs ≡ (known ++ v ∷ []) ++ new_versions (known ++ v ∷ []) vs
        → with_versions (cond b known (known ++ v ∷ [])) vs ≡ known ++ cond b (new_versions known vs) (v ∷ new_versions (known ++ v ∷ []) vs)
    by true one two = one
    by false one two = two ∙ append_assoc known (v ∷ []) (new_versions (known ++ v ∷ []) vs)

version_rows-append : (scope place : ℕ) (vs ws : List TextMap) → version_rows scope place (vs ++ ws) ≡ version_rows scope place vs ++ version_rows scope (place + length vs) ws
version_rows-append scope place [] ws =
    let same : place ≡ place + 0 = omega arith in
    ap (λ p. version_rows scope p ws) same
version_rows-append scope place (v ∷ vs) ws =
    let same : place + 1 + length vs ≡ place + length (v ∷ vs) = omega arith in
    ap (λ rows. version_row scope place v ∷ rows)
    (version_rows-append scope (place + 1) vs ws ∙ ap (λ p. version_rows scope (place + 1) vs ++ version_rows scope p ws) same)

grown_rows : (id : ℕ) (known seen : List TextMap) (rest : List Row) → IsPermutation (version_rows id 1 (with_versions known seen) ++ rest) (version_rows id (length known + 1) (new_versions known seen) ++ (version_rows id 1 known ++ rest))
grown_rows id known seen rest =
    let old : List Row = version_rows id 1 known in
    let new : List Row = version_rows id (length known + 1) (new_versions known seen) in
    let next : 1 + length known ≡ length known + 1 = omega arith in
    let grown : version_rows id 1 (with_versions known seen) ≡ old ++ new =
    ap (version_rows id 1) (new_versions-are known seen) ∙ version_rows-append id 1 known (new_versions known seen) ∙ ap (λ p. version_rows id 1 known ++ version_rows id p (new_versions known seen)) next in
    IsPermutation-trans (version_rows id 1 (with_versions known seen) ++ rest) (old ++ (new ++ rest)) (new ++ (old ++ rest))
    (IsPermutation-same _ _ (ap (λ rows. rows ++ rest) grown ∙ append_assoc old new rest))
    (swapped old new rest)

pub report_versions : (s : ScopeData) (seen : List TextMap) (id : ℕ) (ts : List TableData) → IsPermutation (table_rows id (with_report s seen ts)) (version_rows (scope_id id s ts) (length (versions_of s ts) + 1) (new_versions (versions_of s ts) seen) ++ table_rows id ts)
report_versions s seen id [] = IsPermutation-same _ _ (ap (λ vs. version_rows id 1 vs ++ []) (new_versions-are [] seen))
report_versions s seen id (t ∷ ts) = by (is_scope s t.scope) (report_versions s seen (id + 1) ts)
  where
    by : (b : Bool) → IsPermutation (table_rows (id + 1) (with_report s seen ts)) (version_rows (scope_id (id + 1) s ts) (length (versions_of s ts) + 1) (new_versions (versions_of s ts) seen) ++ table_rows (id + 1) ts)
        → IsPermutation (table_rows id (cond b (record { scope = t.scope; versions = with_versions t.versions seen } ∷ ts) (t ∷ with_report s seen ts)))
        (version_rows (cond b id (scope_id (id + 1) s ts)) (length (cond b t.versions (versions_of s ts)) + 1) (new_versions (cond b t.versions (versions_of s ts)) seen) ++ (version_rows id 1 t.versions ++ table_rows (id + 1) ts))
    by true later = grown_rows id t.versions seen (table_rows (id + 1) ts)
    by false later =
        let mine : List Row = version_rows id 1 t.versions in
        let new : List Row = version_rows (scope_id (id + 1) s ts) (length (versions_of s ts) + 1) (new_versions (versions_of s ts) seen) in
        IsPermutation-trans (mine ++ table_rows (id + 1) (with_report s seen ts)) (mine ++ (new ++ table_rows (id + 1) ts)) (new ++ (mine ++ table_rows (id + 1) ts))
        (IsPermutation-append_right mine _ _ later)
        (swapped mine new (table_rows (id + 1) ts))

-- ---- scopes
pub report_scopes : (s : ScopeData) (seen : List TextMap) (id : ℕ) (ts : List TableData) → IsPermutation (scope_rows id (with_report s seen ts)) (cond (has_scope s ts) [] (scope_row (scope_id id s ts) s ∷ []) ++ scope_rows id ts)
report_scopes s seen id [] = IsPermutation-refl (scope_row id s ∷ [])
report_scopes s seen id (t ∷ ts) = by (is_scope s t.scope) (report_scopes s seen (id + 1) ts)
  where
    by : (b : Bool) → IsPermutation (scope_rows (id + 1) (with_report s seen ts)) (cond (has_scope s ts) [] (scope_row (scope_id (id + 1) s ts) s ∷ []) ++ scope_rows (id + 1) ts)
        → IsPermutation (scope_rows id (cond b (record { scope = t.scope; versions = with_versions t.versions seen } ∷ ts) (t ∷ with_report s seen ts)))
        (cond (b || has_scope s ts) [] (scope_row (cond b id (scope_id (id + 1) s ts)) s ∷ []) ++ scope_row id t.scope ∷ scope_rows (id + 1) ts)
    by true later = IsPermutation-refl (scope_row id t.scope ∷ scope_rows (id + 1) ts)
    by false later =
        let mine : Row = scope_row id t.scope in
        let new : List Row = cond (has_scope s ts) [] (scope_row (scope_id (id + 1) s ts) s ∷ []) in
        IsPermutation-trans (mine ∷ scope_rows (id + 1) (with_report s seen ts)) (mine ∷ (new ++ scope_rows (id + 1) ts)) (new ++ mine ∷ scope_rows (id + 1) ts)
        (IsPermutation-cons mine _ _ later)
        (swapped (mine ∷ []) new (scope_rows (id + 1) ts))

-- ---- what the writes make
pub scope_made : (known : Bool) (id : ℕ) (s : ScopeData) (c : Contents) → HasSameRows (record c { scopes = cond known [] (scope_row id s ∷ []) ++ c.scopes }) (all_made (cond known [] (write.scope id s.resource s.kind s.source ∷ [])) c)
scope_made true id s c = same_rows c
scope_made false id s c = same_rows (record c { scopes = scope_row id s ∷ c.scopes })

pub versions_made : (id place : ℕ) (vs : List TextMap) (c : Contents) → HasSameRows (record c { versions = version_rows id place vs ++ c.versions }) (all_made (version_writes id place vs) c)
versions_made id place [] c = same_rows c
versions_made id place (v ∷ vs) c =
    let row : Row = version_row id place v in
    let rows : List Row = version_rows id (place + 1) vs in
    let first : Contents = record c { versions = row ∷ c.versions } in
    then_rows (record c { versions = row ∷ (rows ++ c.versions) }) (record first { versions = rows ++ row ∷ c.versions }) (all_made (version_writes id (place + 1) vs) first)
    (record {
      meta = IsPermutation-refl c.meta;
      scopes = IsPermutation-refl c.scopes;
      versions = swapped (row ∷ []) rows c.versions;
      builds = IsPermutation-refl c.builds;
      pairs = IsPermutation-refl c.pairs;
      pins = IsPermutation-refl c.pins;
    })
    (versions_made id (place + 1) vs first)
