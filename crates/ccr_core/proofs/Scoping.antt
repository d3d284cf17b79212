-- What a build used for an input is a place of the scope of the input's resource, and its version has that place.
use Rattle.std.proofs.Common.{◌≡◌, ◌⊎◌, inl, inr, ℕ, zero, suc, ◌+◌, ◌-◌, ◌<◌, ◌≤◌, ◌==◌, Bool, true, false, cond, List, [], ◌∷◌, length, AllPairs, Ordering, Less, Equal, Greater, refl, sym, ap, ◌∙◌, subst, arith}
use Rattle.std.specs.Prelude.{slice_index_or}
use Rattle.std.specs.List.{AllByRecursion}
use Rattle.std.specs.Option.{option_map_or}
use Rattle.std.specs.Ordering.{nat_cmp, match_ordering}
use Rattle.std.specs.Cmp.Lexicographic.{slice_cmp}
use Rattle.std.proofs.lemmas.Bool.{false≢true, ne_eqb}
use Rattle.std.proofs.lemmas.Slice.Eq.{bytes_eq-Decides}
use Rattle.ccr_history.specs.TextMap.{TextMap, key_text, is_version}
use Rattle.ccr_history.specs.Scopes.{ScopeData, is_scope}
use Rattle.ccr_history.specs.Tables.{TableData, with_versions, with_report, reported, versions_of, scope_number, place_in}
use Rattle.ccr_history.specs.Builds.{UsedData, with_used, by_input}
use Rattle.ccr_history.specs.Changes.{EditData, text, versions, build, ended, pin_set, pin_cleared, disabled, enabled, edited, changed}
use Rattle.ccr_history.specs.History.{HistoryData, places_at, IsTable}
use Rattle.ccr_history.proofs.Lists.{pairs_tail}
use Rattle.ccr_pipeline.specs.Inputs.{InputData}
use Rattle.ccr_pipeline.specs.Pipelines.{PipelineData}
use Rattle.ccr_steps.specs.Asks.{Chosen, version_of}
use Rattle.ccr_problem.specs.ProblemOf.{scope_of, history_number}
use Rattle.ccr_problem.proofs.Among.{Among}
use Rattle.ccr_core.specs.Choices.{used_at}
use Rattle.ccr_core.specs.Seen.{versions_seen, version_in, pair_of}
use Rattle.ccr_core.proofs.Choosing.{IsSeen, ArePlaced}
use Rattle.ccr_core.proofs.Moving.{moved_of, IsGot}
use Rattle.ccr_core.proofs.RunningLists.{all_weaker}
use Rattle.ccr_core.proofs.Seeing.{version_itself, some_there, number_there}
use Rattle.ccr_core.proofs.Using.{IsRight, number_versions}

-- a place of the scope of the input's resource was used for the input
abbrev pub IsUsedIn : PipelineData → HistoryData → List UsedData → InputData → Type 0
IsUsedIn p h us i = (place : ℕ) × Among us (record { input = i.name; scope = history_number p h i.resource; place = place })

-- ---- a scope keeps its number
some_number : (n : ℕ) → 1 ≤ cond (n == 0) 0 (n + 1) → 1 ≤ n
some_number zero low = absurd (omega (arith, low))
some_number (suc n) low = omega arith

module _ (s : ScopeData) where
  number_report : (scope : ScopeData) (ws : List TextMap) (ts : List TableData) → 1 ≤ scope_number s ts → scope_number s (with_report scope ws ts) ≡ scope_number s ts
  number_report scope ws [] low = absurd (omega (arith, low))
  number_report scope ws (t ∷ ts) low = by (is_scope scope t.scope) (number_report scope ws ts)
    where
      behind : (b : Bool) → (1 ≤ scope_number s ts → scope_number s (with_report scope ws ts) ≡ scope_number s ts) → 1 ≤ cond b 1 (cond (scope_number s ts == 0) 0 (scope_number s ts + 1)) → cond b 1 (cond (scope_number s (with_report scope ws ts) == 0) 0 (scope_number s (with_report scope ws ts) + 1)) ≡ cond b 1 (cond (scope_number s ts == 0) 0 (scope_number s ts + 1))
      behind true more low = refl
      behind false more low = ap (λ n. cond (n == 0) 0 (n + 1)) (more (some_number (scope_number s ts) low))

      by : (a : Bool) → (1 ≤ scope_number s ts → scope_number s (with_report scope ws ts) ≡ scope_number s ts) → scope_number s (cond a (record { scope = t.scope; versions = with_versions t.versions ws } ∷ ts) (t ∷ with_report scope ws ts)) ≡ scope_number s (t ∷ ts)
      by true more = refl
      by false more = behind (is_scope s t.scope) more low

  number_reported : (scope : ScopeData) (ws : List TextMap) (ts : List TableData) → 1 ≤ scope_number s ts → scope_number s (reported scope ws ts) ≡ scope_number s ts
  number_reported scope [] ts low = refl
  number_reported scope (w ∷ ws) ts low = number_report scope (w ∷ ws) ts low

  number_edited : (e : EditData) (h : HistoryData) → 1 ≤ scope_number s h.tables → scope_number s (edited e h).tables ≡ scope_number s h.tables
  number_edited (text t) h low = refl
  number_edited (versions scope vs) h low = number_reported scope vs h.tables low
  number_edited (build job used) h low = refl
  number_edited (ended job number st mv) h low = refl
  number_edited (pin_set resource p) h low = refl
  number_edited (pin_cleared resource) h low = refl
  number_edited (disabled scope place) h low = refl
  number_edited (enabled scope place) h low = refl

  number_changed : (es : List EditData) (h : HistoryData) → 1 ≤ scope_number s h.tables → scope_number s (changed es h).tables ≡ scope_number s h.tables
  number_changed [] h low = refl
  number_changed (e ∷ es) h low =
      let one = number_edited e h low in
      number_changed es (edited e h) (subst (λ n. 1 ≤ n) (sym one) low) ∙ one

-- changes leave what was used, where the input's version was seen
pub used_in_changed : (p : PipelineData) (es : List EditData) (h : HistoryData) (inputs : Chosen) (us : List UsedData) (i : InputData) → IsGot (IsSeen p h) inputs i → IsUsedIn p h us i → IsUsedIn p (changed es h) us i
used_in_changed p es h inputs us i (x, at, has) (place, there) =
    let (low, same) = number_there (scope_of x) h.tables (some_there (version_of inputs i.name) (versions_of (scope_of x) h.tables) has) in
    let then : history_number p (changed es h) i.resource ≡ scope_number (scope_of x) (changed es h).tables = ap (λ o. option_map_or (λ r. scope_number (scope_of r) (changed es h).tables) o 0) at in
    let now : history_number p h i.resource ≡ scope_number (scope_of x) h.tables = ap (λ o. option_map_or (λ r. scope_number (scope_of r) h.tables) o 0) at in
    let stays : history_number p h i.resource ≡ history_number p (changed es h) i.resource = now ∙ sym (number_changed (scope_of x) es h low) ∙ sym then in
    (place, subst (λ n. Among us (record { input = i.name; scope = n; place = place })) stays there)

-- ---- in order of names
with_used_has : (u x : UsedData) (us : List UsedData) → (u ≡ x) ⊎ Among us x → Among (with_used u us) x
with_used_has u x [] h = h
with_used_has u x (v ∷ vs) h = by (slice_cmp nat_cmp u.input v.input) h (with_used_has u x vs)
  where
    by : (o : Ordering) → (u ≡ x) ⊎ ((v ≡ x) ⊎ Among vs x) → ((u ≡ x) ⊎ Among vs x → Among (with_used u vs) x) → Among (match_ordering o (u ∷ v ∷ vs) (u ∷ v ∷ vs) (v ∷ with_used u vs)) x
    by Less h more = h
    by Equal h more = h
    by Greater (inl e) more = inr (more (inl e))
    by Greater (inr (inl e)) more = inl e
    by Greater (inr (inr a)) more = inr (more (inr a))

pub by_input_has : (us : List UsedData) (x : UsedData) → Among us x → Among (by_input us) x
by_input_has [] x h = absurd h
by_input_has (u ∷ us) x (inl e) = with_used_has u x (by_input us) (inl e)
by_input_has (u ∷ us) x (inr h) = with_used_has u x (by_input us) (inr (by_input_has us x h))

-- ---- what a new build used
used_in : (p : PipelineData) (h : HistoryData) (is : List InputData) (ns : List ℕ) → ArePlaced p h is ns → AllByRecursion (IsUsedIn p h (used_at p h is ns)) is
used_in p h [] [] placed = tt
used_in p h [] (n ∷ ns) placed = absurd placed
used_in p h (i ∷ is) [] placed = absurd placed
used_in p h (i ∷ is) (n ∷ ns) (one, rest) =
    ((n, inl refl), all_weaker (λ y used. (let (place, there) = used in (place, inr there))) is (used_in p h is ns rest))

pub begun_used_in : (p : PipelineData) (h : HistoryData) (is : List InputData) (ns : List ℕ) → ArePlaced p h is ns → AllByRecursion (IsUsedIn p h (by_input (used_at p h is ns))) is
begun_used_in p h is ns placed =
    all_weaker (λ i used. (let (place, there) = used in (place, by_input_has (used_at p h is ns) (record { input = i.name; scope = history_number p h i.resource; place = place }) there))) is (used_in p h is ns placed)

-- ---- the place of a version
-- where no version stands twice, the one at a position has the place that is one more
place_at : (vs : List TextMap) (k : ℕ) → AllPairs (λ v w. is_version v w ≡ false) vs → k < length vs → place_in (slice_index_or vs k []) vs ≡ k + 1
place_at [] k apart lt = absurd (omega (arith, lt))
place_at (w ∷ vs) zero apart lt = ap (λ t. cond t 1 (cond (place_in w vs == 0) 0 (place_in w vs + 1))) (version_itself w)
place_at (w ∷ vs) (suc k) apart lt =
    by (is_version (slice_index_or vs k []) w) refl (place_at vs k (pairs_tail (λ v w. is_version v w ≡ false) w vs apart) (omega (arith, lt)))
  where
    none : is_version w (slice_index_or vs k []) ≡ false
    none = apart zero (suc k) [] (omega arith) lt

    turned : is_version (slice_index_or vs k []) w ≡ true → is_version w (slice_index_or vs k []) ≡ true
    turned e = (bytes_eq-Decides (key_text w) (key_text (slice_index_or vs k []))).1 (sym ((bytes_eq-Decides (key_text (slice_index_or vs k [])) (key_text w)).0 e))

    by : (t : Bool) → is_version (slice_index_or vs k []) w ≡ t → place_in (slice_index_or vs k []) vs ≡ k + 1 → cond t 1 (cond (place_in (slice_index_or vs k []) vs == 0) 0 (place_in (slice_index_or vs k []) vs + 1)) ≡ suc k + 1
    by true is more = absurd (false≢true (sym none ∙ turned is))
    by false is more =
        let m = place_in (slice_index_or vs k []) vs in
        let some : (m == 0) ≡ false = ne_eqb m 0 (λ z. omega (arith, more, z)) in
        let grows : m + 1 ≡ suc k + 1 = omega (arith, more) in
        ap (λ c. cond c 0 (m + 1)) some ∙ grows

-- the versions of a scope stand once each
once_each : (s : ScopeData) (ts : List TableData) → AllByRecursion IsTable ts → AllPairs (λ v w. is_version v w ≡ false) (versions_of s ts)
once_each s [] all = λ i j d before within. absurd (omega (arith, within))
once_each s (t ∷ ts) all = by (is_scope s t.scope) (once_each s ts all.1)
  where
    by : (b : Bool) → AllPairs (λ v w. is_version v w ≡ false) (versions_of s ts) → AllPairs (λ v w. is_version v w ≡ false) (cond b t.versions (versions_of s ts))
    by true more = all.0.2
    by false more = more

-- the place that was used for an input is where the input's version stands
pub used_pair : (p : PipelineData) (h : HistoryData) (inputs : Chosen) (i : InputData) (place : ℕ) → AllByRecursion IsTable h.tables → IsGot (IsSeen p h) inputs i
    → IsRight h.tables inputs (record { input = i.name; scope = history_number p h i.resource; place = place })
    → pair_of p h (moved_of i.resource (version_of inputs i.name)) ≡ (history_number p h i.resource, place)
used_pair p h inputs i place tables (x, at, has) ((low, high), is) = ap {B = ℕ × ℕ} (λ n. (history_number p h i.resource, n)) stands
  where
    some : 1 ≤ length (versions_of (scope_of x) h.tables)
    some = some_there (version_of inputs i.name) (versions_of (scope_of x) h.tables) has

    number : history_number p h i.resource ≡ scope_number (scope_of x) h.tables
    number = ap (λ o. option_map_or (λ r. scope_number (scope_of r) h.tables) o 0) at

    list : versions_seen p h i.resource ≡ versions_of (scope_of x) h.tables
    list = ap (λ o. option_map_or (λ r. versions_of (scope_of r) h.tables) o []) at

    within : place - 1 < length (versions_of (scope_of x) h.tables)
    within = let same = (number_there (scope_of x) h.tables some).1 in let there = subst (λ n. place ≤ places_at h.tables n) number high in omega (arith, low, there, same)

    one : version_of inputs i.name ≡ slice_index_or (versions_of (scope_of x) h.tables) (place - 1) []
    one = is ∙ ap (λ n. version_in h.tables n place) number ∙ number_versions (scope_of x) h.tables place some

    stands : place_in (version_of inputs i.name) (versions_seen p h i.resource) ≡ place
    stands =
        let back : place - 1 + 1 ≡ place = omega (arith, low) in
        ap (place_in (version_of inputs i.name)) list ∙ ap (λ v. place_in v (versions_of (scope_of x) h.tables)) one
        ∙ place_at (versions_of (scope_of x) h.tables) (place - 1) (once_each (scope_of x) h.tables tables) within ∙ back
