-- Of a report its new versions alone count.
use Rattle.std.proofs.Common.{◌≡◌, ◌+◌, ◌≤◌, ◌||◌, nat_lt, List, [], ◌∷◌, ◌++◌, length, drop, Bool, true, false, cond, refl, sym, ap, ◌∙◌, subst, arith, length-append}
use Rattle.std.proofs.Math.Seq.{drop-append_seam, drop-length}
use Rattle.std.proofs.lemmas.Bool.{cond-false}
use Rattle.std.proofs.lemmas.List.{append_assoc, append-nil, length-drop}
use Rattle.std.specs.List.{AllByRecursion}
use Rattle.ccr_history.specs.declared.table.TheConstants.{MOST_VERSIONS, MOST_SCOPES}
use Rattle.ccr_history.specs.History.{HistoryData, IsTable, IsHistory}
use Rattle.ccr_history.specs.Changes.{edited, versions}
use Rattle.ccr_history.specs.TextMap.{TextMap}
use Rattle.ccr_history.specs.Scopes.{ScopeData, is_scope}
use Rattle.ccr_history.specs.Tables.{TableData, has_version, with_versions, with_report, reported, versions_of, new_count, is_table_full}
use Rattle.ccr_history.specs.Edits.{AreNew}
use Rattle.ccr_history.proofs.TableLaws.{versions_of-with_report}
use Rattle.ccr_history.proofs.VersionLists.{with_versions-longer}

-- the versions of a report that aren't known, each once
abbrev pub new_versions : List TextMap → List TextMap → List TextMap
new_versions known [] = []
new_versions known (v ∷ vs) =
    cond (has_version known v) (new_versions known vs) (v ∷ new_versions (known ++ v ∷ []) vs)

-- they come behind those that are known
pub new_behind : (known seen : List TextMap) → with_versions known seen ≡ known ++ new_versions known seen
new_behind known [] = sym (append-nil known)
new_behind known (v ∷ vs) = by (has_version known v) (new_behind known vs) (new_behind (known ++ v ∷ []) vs)
  where
    by : (t : Bool) → with_versions known vs ≡ known ++ new_versions known vs
        → with_versions (known ++ v ∷ []) vs ≡ (known ++ v ∷ []) ++ new_versions (known ++ v ∷ []) vs
        → with_versions (cond t known (known ++ v ∷ [])) vs ≡ known ++ cond t (new_versions known vs) (v ∷ new_versions (known ++ v ∷ []) vs)
    by true same more = same
    by false same more = more ∙ append_assoc known (v ∷ []) (new_versions (known ++ v ∷ []) vs)

-- each of them is new once more
new_again : (known seen : List TextMap) → new_versions known (new_versions known seen) ≡ new_versions known seen
new_again known [] = refl
new_again known (v ∷ vs) = by (has_version known v) refl (new_again known vs) (new_again (known ++ v ∷ []) vs)
  where
    by : (t : Bool) → has_version known v ≡ t → new_versions known (new_versions known vs) ≡ new_versions known vs
        → new_versions (known ++ v ∷ []) (new_versions (known ++ v ∷ []) vs) ≡ new_versions (known ++ v ∷ []) vs
        → new_versions known (cond t (new_versions known vs) (v ∷ new_versions (known ++ v ∷ []) vs)) ≡ cond t (new_versions known vs) (v ∷ new_versions (known ++ v ∷ []) vs)
    by true is same more = same
    by false is same more =
        cond-false (has_version known v) (new_versions known (new_versions (known ++ v ∷ []) vs)) (v ∷ new_versions (known ++ v ∷ []) (new_versions (known ++ v ∷ []) vs)) is
        ∙ ap (λ ws. v ∷ ws) more

-- what stands behind the known ones
pub behind : (known seen : List TextMap) → drop (length known) (with_versions known seen) ≡ new_versions known seen
behind known seen = ap (drop (length known)) (new_behind known seen) ∙ drop-append_seam known (new_versions known seen)

pub are_new : (known seen : List TextMap) → AreNew known (new_versions known seen)
are_new known seen = new_behind known (new_versions known seen) ∙ ap (λ ws. known ++ ws) (new_again known seen)

-- the list after the report is the same for the new versions alone
same_list : (known seen : List TextMap) → with_versions known (new_versions known seen) ≡ with_versions known seen
same_list known seen = are_new known seen ∙ sym (new_behind known seen)

-- ---- the tables after a report
with_new : (s : ScopeData) (seen : List TextMap) (ts : List TableData) → with_report s (new_versions (versions_of s ts) seen) ts ≡ with_report s seen ts
with_new s seen [] = ap (λ vs. record { scope = s; versions = vs } ∷ []) (same_list [] seen)
with_new s seen (t ∷ ts) = by (is_scope s t.scope) (with_new s seen ts)
  where
    by : (b : Bool) → with_report s (new_versions (versions_of s ts) seen) ts ≡ with_report s seen ts
        → cond b (record { scope = t.scope; versions = with_versions t.versions (new_versions (cond b t.versions (versions_of s ts)) seen) } ∷ ts) (t ∷ with_report s (new_versions (cond b t.versions (versions_of s ts)) seen) ts)
        ≡ cond b (record { scope = t.scope; versions = with_versions t.versions seen } ∷ ts) (t ∷ with_report s seen ts)
    by true later = ap (λ vs. record { scope = t.scope; versions = vs } ∷ ts) (same_list t.versions seen)
    by false later = ap (λ us. t ∷ us) later

-- where nothing is new, a report changes nothing
none_new : (s : ScopeData) (v : TextMap) (vs : List TextMap) (ts : List TableData) → new_versions (versions_of s ts) (v ∷ vs) ≡ [] → ts ≡ with_report s (v ∷ vs) ts
none_new s v vs [] none = absurd (cc)
none_new s v vs (t ∷ ts) none = by (is_scope s t.scope) none (none_new s v vs ts)
  where
    by : (b : Bool) → new_versions (cond b t.versions (versions_of s ts)) (v ∷ vs) ≡ [] → (new_versions (versions_of s ts) (v ∷ vs) ≡ [] → ts ≡ with_report s (v ∷ vs) ts)
        → t ∷ ts ≡ cond b (record { scope = t.scope; versions = with_versions t.versions (v ∷ vs) } ∷ ts) (t ∷ with_report s (v ∷ vs) ts)
    by true none later =
        let same : t.versions ≡ with_versions t.versions (v ∷ vs) = sym (append-nil t.versions) ∙ ap (λ ws. t.versions ++ ws) (sym none) ∙ sym (new_behind t.versions (v ∷ vs)) in
        ap (λ ws. record { scope = t.scope; versions = ws } ∷ ts) same
    by false none later = ap (λ us. t ∷ us) (later none)

-- the report of the new versions alone is the report
pub reported_new : (s : ScopeData) (seen : List TextMap) (ts : List TableData) → reported s (new_versions (versions_of s ts) seen) ts ≡ reported s seen ts
reported_new s [] ts = refl
reported_new s (v ∷ vs) ts = by (new_versions (versions_of s ts) (v ∷ vs)) (none_new s v vs ts) (with_new s (v ∷ vs) ts)
  where
    by : (ws : List TextMap) → (ws ≡ [] → ts ≡ with_report s (v ∷ vs) ts) → with_report s ws ts ≡ with_report s (v ∷ vs) ts → reported s ws ts ≡ with_report s (v ∷ vs) ts
    by [] none some = none refl
    by (w ∷ ws) none some = some

-- what stands in the scope's table behind the versions that it had
pub behind_known : (s : ScopeData) (seen : List TextMap) (ts : List TableData) → drop (length (versions_of s ts)) (versions_of s (reported s seen ts)) ≡ new_versions (versions_of s ts) seen
behind_known s [] ts = drop-length (versions_of s ts)
behind_known s (v ∷ vs) ts = ap (drop (length (versions_of s ts))) (versions_of-with_report s (v ∷ vs) ts) ∙ behind (versions_of s ts) (v ∷ vs)

-- ---- the edit of a report
-- the versions that a history has of a scope after a report, behind those that it had, are new, and their report is the
-- whole one
pub record IsEditOf (s : ScopeData) (seen ws : List TextMap) (h after : HistoryData) : Type 0 where
  pub same : after ≡ edited (versions s ws) h
  pub new : AreNew (versions_of s h.tables) ws
  pub count : length ws ≡ new_count s seen h.tables
  pub room : is_table_full s seen h.tables ≡ false → is_table_full s ws h.tables ≡ false

pub edit_of : (s : ScopeData) (seen ws known now : List TextMap) (h after : HistoryData) → after ≡ edited (versions s seen) h → known ≡ versions_of s h.tables → now ≡ versions_of s after.tables
    → ws ≡ drop (length known) now → IsEditOf s seen ws h after
edit_of s seen ws known now h after is known_is now_is ws_is =
    let now_all : now ≡ versions_of s (reported s seen h.tables) = now_is ∙ ap (λ (k : HistoryData). versions_of s k.tables) is in
    let cut : ws ≡ drop (length (versions_of s h.tables)) (versions_of s (reported s seen h.tables)) = ws_is ∙ ap (λ l. drop (length l) now) known_is ∙ ap (drop (length (versions_of s h.tables))) now_all in
    let are : ws ≡ new_versions (versions_of s h.tables) seen = cut ∙ behind_known s seen h.tables in
    let tables : reported s ws h.tables ≡ reported s seen h.tables = ap (λ l. reported s l h.tables) are ∙ reported_new s seen h.tables in
    record {
      same = is ∙ ap (λ ts. record h { tables = ts }) (sym tables);
      new = subst (AreNew (versions_of s h.tables)) (sym are) (are_new (versions_of s h.tables) seen);
      count = ap length cut ∙ length-drop (length (versions_of s h.tables)) (versions_of s (reported s seen h.tables));
      room = λ fits. full ws tables ∙ fits;
    }
  where
    full : (l : List TextMap) → reported s l h.tables ≡ reported s seen h.tables → is_table_full s l h.tables ≡ is_table_full s seen h.tables
    full l e = ap (λ ts. nat_lt MOST_VERSIONS (length (versions_of s ts)) || nat_lt MOST_SCOPES (length ts)) e

-- a scope has no more versions than a table keeps
pub few_versions : (s : ScopeData) (ts : List TableData) → AllByRecursion IsTable ts → length (versions_of s ts) ≤ MOST_VERSIONS
few_versions s [] each = omega arith
few_versions s (t ∷ ts) each = by (is_scope s t.scope) (few_versions s ts each.1)
  where
    by : (b : Bool) → length (versions_of s ts) ≤ MOST_VERSIONS → length (cond b t.versions (versions_of s ts)) ≤ MOST_VERSIONS
    by true later = each.0.1
    by false later = later

-- a scope has no fewer versions after a report
pub known_stay : (s : ScopeData) (seen known now : List TextMap) (h after : HistoryData) → after ≡ edited (versions s seen) h → known ≡ versions_of s h.tables → now ≡ versions_of s after.tables → length known ≤ length now
known_stay s seen known now h after is known_is now_is =
    let all : length now ≡ length (versions_of s (reported s seen h.tables)) = ap length now_is ∙ ap (λ (k : HistoryData). length (versions_of s k.tables)) is in
    omega (arith, ap length known_is, all, more seen)
  where
    more : (vs : List TextMap) → length (versions_of s h.tables) ≤ length (versions_of s (reported s vs h.tables))
    more [] = omega arith
    more (v ∷ vs) = omega (arith, ap length (versions_of-with_report s (v ∷ vs) h.tables), with_versions-longer (versions_of s h.tables) (v ∷ vs))

-- a report of new versions alone brings as many as there are
pub new_alone : (s : ScopeData) (ws : List TextMap) (ts : List TableData) → AreNew (versions_of s ts) ws → length (versions_of s (reported s ws ts)) ≡ length (versions_of s ts) + length ws
new_alone s [] ts new = omega arith
new_alone s (w ∷ ws) ts new =
    ap length (versions_of-with_report s (w ∷ ws) ts) ∙ ap length new ∙ length-append (versions_of s ts) (w ∷ ws)

pub taken_back : (s : ScopeData) (ws : List TextMap) (h after : HistoryData) → IsHistory after → AreNew (versions_of s h.tables) ws → after ≡ edited (versions s ws) h
    → (length ws ≤ MOST_VERSIONS) × (length ws ≡ new_count s ws h.tables)
taken_back s ws h after rules new is =
    let many = new_alone s ws h.tables new in
    let all : length (versions_of s after.tables) ≡ length (versions_of s (reported s ws h.tables)) = ap (λ (k : HistoryData). length (versions_of s k.tables)) is in
    let few = few_versions s after.tables rules.0.2 in
    (omega (arith, many, all, few), omega (arith, many))
