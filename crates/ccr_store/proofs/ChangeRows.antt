-- The writes of each change give the rows of the changed history.
use Rattle.std.proofs.Common.{◌≡◌, ℕ, pos, ◌+◌, List, [], ◌∷◌, ◌++◌, map, length, Bool, true, false, not, cond, Option, Some, None, is_eq, refl, sym, ap, ◌∙◌, subst, IsPermutation}
use Rattle.std.proofs.lemmas.List.Sorted.{IsPermutation-refl, IsPermutation-sym, IsPermutation-trans, IsPermutation-map, IsPermutation-append_left, IsPermutation-append_right}
use Rattle.sqlite.specs.declared.types.Value.TheVariants.{Int}
use Rattle.sqlite.specs.Order.{Row, value_cmp}
use Rattle.sqlite_value.proofs.OrderLemmas.{value_cmp-Int}
use Rattle.sqlite_keyed.proofs.ListLemmas.{IsPermutation-same}
use Rattle.ccr_history.specs.declared.build.Status.{Status}
use Rattle.ccr_history.specs.Text.{Text}
use Rattle.ccr_history.specs.TextMap.{TextMap}
use Rattle.ccr_history.specs.Scopes.{ScopeData}
use Rattle.ccr_history.specs.Tables.{versions_of}
use Rattle.ccr_history.specs.Builds.{UsedData, BuildData, new_build, count_of, with_build, with_end, with_moved}
use Rattle.ccr_history.specs.Pairs.{has_pair, without_pair}
use Rattle.ccr_history.specs.History.{HistoryData, IsHistory, IsBuild}
use Rattle.ccr_history.specs.Changes.{EditData, text, versions, build, ended, pin_set, pin_cleared, disabled, enabled, edited, changed, Admits, AdmitsAll, IsRunning}
use Rattle.ccr_history.proofs.ChangeLaws.{kept}
use Rattle.sqlite.specs.Tree.{Trees}
use Rattle.ccr_tables.specs.Contents.{Contents, Keeps}
use Rattle.ccr_tables.specs.Written.{without}
use Rattle.ccr_store.specs.Rows.{format_row, text_row, meta_rows, scope_row, scope_rows, version_rows, build_row, build_rows, used_row, moved_row, disabled_rows, pair_rows, rows_of, status_number}
use Rattle.ccr_store.specs.declared.format.Format.TheVariants.{Two}
use Rattle.ccr_store.specs.WriteData.{WriteData, made, all_made}
use Rattle.ccr_store.specs.WriteData as write
use Rattle.ccr_store.specs.Writes.{version_writes}
use Rattle.ccr_store.proofs.HistoryWrites.{has_scope, scope_id, new_versions, scope_writes, report_writes, build_id, build_writes, writes_of, all_writes_of}
use Rattle.ccr_store.specs.Reordered.{HasSameRows}
use Rattle.ccr_store.proofs.SameRows.{swapped, same_rows, then_rows, all_made-alike, all_made-append, keeps_same}
use Rattle.ccr_store.proofs.ReportRows.{report_versions, report_scopes, scope_made, versions_made}
use Rattle.ccr_store.proofs.BuildRows.{with_moved-order, new_build_rows, new_pair_rows, pairs_made}
use Rattle.ccr_store.proofs.EndRows.{numbered_once, ended_build_rows, ended_pair_rows, found_keeps, HasUnmoved}
use Rattle.ccr_store.proofs.PinRows.{without_rows, set_rows}
use Rattle.ccr_store.proofs.EnabledRows.{without_rows_of, without_none}

-- ---- the text
one_is_no_two : is_eq (value_cmp (Int (pos 1)) (Int (pos 2))) ≡ false
one_is_no_two = ap is_eq (value_cmp-Int (pos 1) (pos 2))

two_is_two : is_eq (value_cmp (Int (pos 2)) (Int (pos 2))) ≡ true
two_is_two = ap is_eq (value_cmp-Int (pos 2) (pos 2))

format_alone : (old : Option Text) → without (Int (pos 2)) (meta_rows Two old) ≡ format_row Two ∷ []
format_alone None = ap (λ b. cond (not b) (format_row Two ∷ []) []) one_is_no_two
format_alone (Some t) =
    ap (λ b. cond (not b) (format_row Two ∷ without (Int (pos 2)) (text_row t ∷ [])) (without (Int (pos 2)) (text_row t ∷ []))) one_is_no_two
    ∙ ap (λ b. format_row Two ∷ cond (not b) (text_row t ∷ []) []) two_is_two

text_law : (t : Text) (h : HistoryData) → HasSameRows (rows_of (edited (text t) h)) (all_made (writes_of (text t) h) (rows_of h))
text_law t h = record {
  meta = subst (λ rows. IsPermutation (format_row Two ∷ text_row t ∷ []) (text_row t ∷ rows)) (sym (format_alone h.text)) (swapped (format_row Two ∷ []) (text_row t ∷ []) []);
  scopes = IsPermutation-refl _;
  versions = IsPermutation-refl _;
  builds = IsPermutation-refl _;
  pairs = IsPermutation-refl _;
  pins = IsPermutation-refl _;
}

-- ---- a report
report_law : (s : ScopeData) (v : TextMap) (vs : List TextMap) (h : HistoryData) → HasSameRows (rows_of (edited (versions s (v ∷ vs)) h)) (all_made (report_writes s (v ∷ vs) h.tables) (rows_of h))
report_law s v vs h =
    let id : ℕ = scope_id 1 s h.tables in
    let old : List TextMap = versions_of s h.tables in
    let new : List TextMap = new_versions old (v ∷ vs) in
    let rows : List Row = version_rows id (length old + 1) new in
    let one : List WriteData = scope_writes id s h.tables in
    let more : List WriteData = version_writes id (length old + 1) new in
    let with_scope : Contents = record (rows_of h) { scopes = cond (has_scope s h.tables) [] (scope_row id s ∷ []) ++ scope_rows 1 h.tables } in
    let first : Contents = all_made one (rows_of h) in
    subst (HasSameRows (rows_of (edited (versions s (v ∷ vs)) h))) (sym (all_made-append one more (rows_of h)))
    (then_rows (rows_of (edited (versions s (v ∷ vs)) h)) (record with_scope { versions = rows ++ with_scope.versions }) (all_made more first)
    (record {
      meta = IsPermutation-refl _;
      scopes = report_scopes s (v ∷ vs) 1 h.tables;
      versions = report_versions s (v ∷ vs) 1 h.tables;
      builds = IsPermutation-refl _;
      pairs = IsPermutation-refl _;
      pins = IsPermutation-refl _;
    })
    (then_rows (record with_scope { versions = rows ++ with_scope.versions }) (all_made more with_scope) (all_made more first)
    (versions_made id (length old + 1) new with_scope)
    (all_made-alike more with_scope first (scope_made (has_scope s h.tables) id s (rows_of h)))))

-- ---- builds
-- rows that are new behind others are new before them
behind : (front rows new old : List Row) → IsPermutation rows (new ++ old) → IsPermutation (front ++ rows) (new ++ (front ++ old))
behind front rows new old same =
    IsPermutation-trans (front ++ rows) (front ++ (new ++ old)) (new ++ (front ++ old)) (IsPermutation-append_right front rows (new ++ old) same) (swapped front new old)

build_law : (job : Text) (used : List UsedData) (h : HistoryData) → HasSameRows (rows_of (edited (build job used) h)) (all_made (build_writes job used h.builds) (rows_of h))
build_law job used h =
    let id : ℕ = length h.builds + 1 in
    let new : BuildData = new_build job (count_of job h.builds + 1) used in
    let first : Contents = record (rows_of h) { builds = build_row id new ∷ build_rows 1 h.builds } in
    then_rows (rows_of (edited (build job used) h)) (record first { pairs = map (used_row id) used ++ (rows_of h).pairs }) (all_made (build_writes job used h.builds) (rows_of h))
    (record {
      meta = IsPermutation-refl _;
      scopes = IsPermutation-refl _;
      versions = IsPermutation-refl _;
      builds = new_build_rows job used h.builds;
      pairs = behind (disabled_rows h.disabled) (pair_rows 1 (with_build job used h.builds)) (map (used_row id) used) (pair_rows 1 h.builds) (new_pair_rows job used h.builds);
      pins = IsPermutation-refl _;
    })
    (pairs_made id (λ (u : UsedData). u.input) (λ u. u.scope) (λ u. u.place) used first)

end_law : (job : Text) (number : ℕ) (how : Status) (moved : List (ℕ × ℕ)) (h : HistoryData) → IsHistory h → IsRunning job number h.builds
    → HasSameRows (rows_of (edited (ended job number how moved) h)) (all_made (writes_of (ended job number how moved) h) (rows_of h))
end_law job number how moved h rules running =
    let id : ℕ = build_id 1 job number h.builds in
    let once = numbered_once job number h.builds rules.1.1 in
    let its = found_keeps (IsBuild h.tables) job number h.builds running.0 rules.1.2 running.1 in
    let unmoved : HasUnmoved job number h.builds = (running.0, running.1, its.4 running.2) in
    let first : Contents = made (write.status id (status_number how)) (rows_of h) in
    then_rows (rows_of (edited (ended job number how moved) h)) (record first { pairs = map (moved_row id) moved ++ (rows_of h).pairs }) (all_made (writes_of (ended job number how moved) h) (rows_of h))
    (record {
      meta = IsPermutation-refl _;
      scopes = IsPermutation-refl _;
      versions = IsPermutation-refl _;
      builds = IsPermutation-same _ _ (ended_build_rows job number how moved 1 h.builds once);
      pairs = behind (disabled_rows h.disabled) (pair_rows 1 (with_end job number how moved h.builds)) (map (moved_row id) moved) (pair_rows 1 h.builds) (ended_pair_rows job number how moved 1 h.builds once unmoved);
      pins = IsPermutation-refl _;
    })
    (pairs_made id (λ (p : ℕ × ℕ). []) (λ p. p.0) (λ p. p.1) moved first)

-- ---- pins
pin_law : (resource : Text) (pin : TextMap) (h : HistoryData) → IsHistory h → HasSameRows (rows_of (edited (pin_set resource pin) h)) (all_made (writes_of (pin_set resource pin) h) (rows_of h))
pin_law resource pin h rules = record {
  meta = IsPermutation-refl _;
  scopes = IsPermutation-refl _;
  versions = IsPermutation-refl _;
  builds = IsPermutation-refl _;
  pairs = IsPermutation-refl _;
  pins = set_rows resource pin h.pins rules.2.0;
}

clear_law : (resource : Text) (h : HistoryData) → HasSameRows (rows_of (edited (pin_cleared resource) h)) (all_made (writes_of (pin_cleared resource) h) (rows_of h))
clear_law resource h = record {
  meta = IsPermutation-refl _;
  scopes = IsPermutation-refl _;
  versions = IsPermutation-refl _;
  builds = IsPermutation-refl _;
  pairs = IsPermutation-refl _;
  pins = IsPermutation-same _ _ (sym (without_rows resource h.pins));
}

-- ---- disabled places
disable_law : (scope place : ℕ) (h : HistoryData) → HasSameRows (rows_of (edited (disabled scope place) h)) (all_made (writes_of (disabled scope place) h) (rows_of h))
disable_law scope place h = by (has_pair (scope, place) h.disabled)
  where
    by : (t : Bool)
        → HasSameRows (rows_of (record h { disabled = cond t h.disabled (with_moved (scope, place) h.disabled) })) (all_made (cond t [] (write.pair 0 [] scope place ∷ [])) (rows_of h))
    by true = same_rows (rows_of h)
    by false = record {
      meta = IsPermutation-refl _;
      scopes = IsPermutation-refl _;
      versions = IsPermutation-refl _;
      builds = IsPermutation-refl _;
      pairs = IsPermutation-append_left (pair_rows 1 h.builds) (disabled_rows (with_moved (scope, place) h.disabled)) (moved_row 0 (scope, place) ∷ disabled_rows h.disabled)
          (IsPermutation-map (moved_row 0) (with_moved (scope, place) h.disabled) ((scope, place) ∷ h.disabled) (IsPermutation-sym ((scope, place) ∷ h.disabled) (with_moved (scope, place) h.disabled) (with_moved-order (scope, place) h.disabled)));
      pins = IsPermutation-refl _;
    }

enable_law : (scope place : ℕ) (h : HistoryData) → HasSameRows (rows_of (edited (enabled scope place) h)) (all_made (writes_of (enabled scope place) h) (rows_of h))
enable_law scope place h = by (has_pair (scope, place) h.disabled) refl
  where
    by : (t : Bool) → has_pair (scope, place) h.disabled ≡ t
        → HasSameRows (rows_of (record h { disabled = without_pair (scope, place) h.disabled })) (all_made (cond t (write.no_pair 0 [] scope place ∷ []) []) (rows_of h))
    by true there = record {
      meta = IsPermutation-refl _;
      scopes = IsPermutation-refl _;
      versions = IsPermutation-refl _;
      builds = IsPermutation-refl _;
      pairs = IsPermutation-same _ _ (sym (without_rows_of scope place h.disabled h.builds));
      pins = IsPermutation-refl _;
    }
    by false none = subst (λ (ps : List (ℕ × ℕ)). HasSameRows (rows_of (record h { disabled = ps })) (rows_of h)) (sym (without_none (scope, place) h.disabled none)) (same_rows (rows_of h))

-- ---- each change, and many
pub change_rows : (e : EditData) (h : HistoryData) → IsHistory h → Admits h e → HasSameRows (rows_of (edited e h)) (all_made (writes_of e h) (rows_of h))
change_rows (text t) h rules takes = text_law t h
change_rows (versions s []) h rules takes = same_rows (rows_of h)
change_rows (versions s (v ∷ vs)) h rules takes = report_law s v vs h
change_rows (build job used) h rules takes = build_law job used h
change_rows (ended job number how moved) h rules takes = end_law job number how moved h rules takes.0
change_rows (pin_set resource pin) h rules takes = pin_law resource pin h rules
change_rows (pin_cleared resource) h rules takes = clear_law resource h
change_rows (disabled scope place) h rules takes = disable_law scope place h
change_rows (enabled scope place) h rules takes = enable_law scope place h

pub changes_rows : (es : List EditData) (h : HistoryData) → IsHistory h → AdmitsAll h es → HasSameRows (rows_of (changed es h)) (all_made (all_writes_of es h) (rows_of h))
changes_rows [] h rules takes = same_rows (rows_of h)
changes_rows (e ∷ es) h rules takes =
    let later : List WriteData = all_writes_of es (edited e h) in
    subst (HasSameRows (rows_of (changed es (edited e h)))) (sym (all_made-append (writes_of e h) later (rows_of h)))
    (then_rows (rows_of (changed es (edited e h))) (all_made later (rows_of (edited e h))) (all_made later (all_made (writes_of e h) (rows_of h)))
    (changes_rows es (edited e h) (kept e h rules takes.0) takes.1)
    (all_made-alike later (rows_of (edited e h)) (all_made (writes_of e h) (rows_of h)) (change_rows e h rules takes.0)))

-- trees that show what the writes make show the rows of the changed history
pub changes_kept : (es : List EditData) (h : HistoryData) (trees : Trees) → IsHistory h → AdmitsAll h es → Keeps (all_made (all_writes_of es h) (rows_of h)) trees → Keeps (rows_of (changed es h)) trees
changes_kept es h trees rules takes made =
    keeps_same (rows_of (changed es h)) (all_made (all_writes_of es h) (rows_of h)) trees (changes_rows es h rules takes) made
