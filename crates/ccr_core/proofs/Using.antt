-- The versions at the places that a build used stay what they were.
use Rattle.std.proofs.Common.{◌≡◌, ℕ, zero, suc, ◌+◌, ◌-◌, ◌<◌, ◌≤◌, ◌==◌, Bool, true, false, cond, ◌||◌, List, [], ◌∷◌, ◌++◌, length, map, Ordering, Less, Equal, Greater, bytes_eq, refl, sym, ap, ◌∙◌, subst, arith}
use Rattle.std.specs.Prelude.{slice_index_or}
use Rattle.std.specs.List.{AllByRecursion, IsDistinct, list_any}
use Rattle.std.specs.Option.{option_map_or}
use Rattle.std.specs.Ordering.{nat_cmp, match_ordering}
use Rattle.std.specs.Cmp.Lexicographic.{slice_cmp}
use Rattle.std.proofs.lemmas.Bool.{ne_eqb}
use Rattle.std.proofs.lemmas.Map.Keys.{IsDistinct-head, IsDistinct-tail}
use Rattle.std.proofs.lemmas.Slice.Eq.{bytes_eq-Decides}
use Rattle.ccr_history.specs.TextMap.{TextMap}
use Rattle.ccr_history.specs.Scopes.{ScopeData, is_scope}
use Rattle.ccr_history.specs.Tables.{TableData, has_version, with_version, with_versions, with_report, reported, versions_of, scope_number}
use Rattle.ccr_history.specs.Builds.{UsedData, with_used, by_input}
use Rattle.ccr_history.specs.Changes.{EditData, text, versions, build, ended, pin_set, pin_cleared, disabled, enabled, edited, changed}
use Rattle.ccr_history.specs.History.{HistoryData, places_at}
use Rattle.ccr_pipeline.specs.Inputs.{InputData}
use Rattle.ccr_pipeline.specs.Pipelines.{PipelineData}
use Rattle.ccr_steps.specs.Asks.{Chosen, chosen, version_of}
use Rattle.ccr_problem.specs.ProblemOf.{scope_of, history_number}
use Rattle.ccr_core.specs.Choices.{used_at, versions_at}
use Rattle.ccr_core.specs.Seen.{versions_seen, version_at, version_in, is_used_for}
use Rattle.ccr_core.proofs.Choosing.{IsPlaced, ArePlaced, used_names}
use Rattle.ccr_core.proofs.RunningLists.{all_weaker, all_both}
use Rattle.ccr_core.proofs.Seeing.{number_there}

-- ---- a version of a list stays at its place
get_left : (vs ws : List TextMap) (k : ℕ) → k < length vs → slice_index_or (vs ++ ws) k [] ≡ slice_index_or vs k []
get_left [] ws k lt = absurd (omega (arith, lt))
get_left (v ∷ vs) ws zero lt = refl
get_left (v ∷ vs) ws (suc k) lt = get_left vs ws k (omega (arith, lt))

length_left : (vs ws : List TextMap) → length vs ≤ length (vs ++ ws)
length_left [] ws = omega arith
length_left (v ∷ vs) ws = let e = length_left vs ws in omega (arith, e)

-- what stays of a list of versions
abbrev Stays : List TextMap → List TextMap → Type 0
Stays vs ws = (length vs ≤ length ws) × ((k : ℕ) → k < length vs → slice_index_or ws k [] ≡ slice_index_or vs k [])

stays_with : (vs : List TextMap) (w : TextMap) → Stays vs (with_version vs w)
stays_with vs w = by (has_version vs w)
  where
    by : (t : Bool) → Stays vs (cond t vs (vs ++ w ∷ []))
    by true = (omega arith, λ k lt. refl)
    by false = (length_left vs (w ∷ []), λ k lt. get_left vs (w ∷ []) k lt)

stays_all : (ws vs : List TextMap) → Stays vs (with_versions vs ws)
stays_all [] vs = (omega arith, λ k lt. refl)
stays_all (w ∷ ws) vs =
    let (le, one) = stays_with vs w in
    let (more, rest) = stays_all ws (with_version vs w) in
    (omega (arith, le, more), λ k lt. rest k (omega (arith, lt, le)) ∙ one k lt)

-- ---- a version of the tables stays at its place
-- the used place is one of the tables
abbrev pub IsAt : List TableData → ℕ → ℕ → Type 0
IsAt ts scope place = (1 ≤ place) × (place ≤ places_at ts scope)

-- and it stays there with its version
abbrev StaysAt : List TableData → List TableData → ℕ → ℕ → Type 0
StaysAt ts us scope place = IsAt us scope place × (version_in us scope place ≡ version_in ts scope place)

module _ (t : TableData) (ts us : List TableData) (ws : List TextMap) (n k : ℕ) (low : 1 ≤ k) where
  at_head : (b : Bool) → k ≤ cond b (length t.versions) (places_at ts (n - 1)) → ((1 ≤ k) × (k ≤ cond b (length (with_versions t.versions ws)) (places_at ts (n - 1)))) × (cond b (slice_index_or (with_versions t.versions ws) (k - 1) []) (version_in ts (n - 1) k) ≡ cond b (slice_index_or t.versions (k - 1) []) (version_in ts (n - 1) k))
  at_head true high =
      let (le, same) = stays_all ws t.versions in
      let within : k - 1 < length t.versions = omega (arith, low, high) in
      ((low, omega (arith, high, le)), same (k - 1) within)
  at_head false high = ((low, high), refl)

  at_tail : (b : Bool) → (IsAt ts (n - 1) k → StaysAt ts us (n - 1) k) → k ≤ cond b (length t.versions) (places_at ts (n - 1)) → ((1 ≤ k) × (k ≤ cond b (length t.versions) (places_at us (n - 1)))) × (cond b (slice_index_or t.versions (k - 1) []) (version_in us (n - 1) k) ≡ cond b (slice_index_or t.versions (k - 1) []) (version_in ts (n - 1) k))
  at_tail true more high = ((low, high), refl)
  at_tail false more high = more (low, high)

at_report : (s : ScopeData) (ws : List TextMap) (ts : List TableData) (n k : ℕ) → IsAt ts n k → StaysAt ts (with_report s ws ts) n k
at_report s ws [] n k (low, high) = absurd (omega (arith, low, high))
at_report s ws (t ∷ ts) n k (low, high) = by (is_scope s t.scope) (at_report s ws ts (n - 1) k)
  where
    by : (a : Bool) → (IsAt ts (n - 1) k → StaysAt ts (with_report s ws ts) (n - 1) k) → StaysAt (t ∷ ts) (cond a (record { scope = t.scope; versions = with_versions t.versions ws } ∷ ts) (t ∷ with_report s ws ts)) n k
    by true more = at_head t ts ts ws n k low (n == 1) high
    by false more = at_tail t ts (with_report s ws ts) ws n k low (n == 1) more high

at_reported : (s : ScopeData) (ws : List TextMap) (ts : List TableData) (n k : ℕ) → IsAt ts n k → StaysAt ts (reported s ws ts) n k
at_reported s [] ts n k at = (at, refl)
at_reported s (w ∷ ws) ts n k at = at_report s (w ∷ ws) ts n k at

at_edited : (e : EditData) (h : HistoryData) (n k : ℕ) → IsAt h.tables n k → StaysAt h.tables (edited e h).tables n k
at_edited (text t) h n k at = (at, refl)
at_edited (versions scope vs) h n k at = at_reported scope vs h.tables n k at
at_edited (build job used) h n k at = (at, refl)
at_edited (ended job number st mv) h n k at = (at, refl)
at_edited (pin_set resource p) h n k at = (at, refl)
at_edited (pin_cleared resource) h n k at = (at, refl)
at_edited (disabled scope place) h n k at = (at, refl)
at_edited (enabled scope place) h n k at = (at, refl)

pub at_changed : (es : List EditData) (h : HistoryData) (n k : ℕ) → IsAt h.tables n k → StaysAt h.tables (changed es h).tables n k
at_changed [] h n k at = (at, refl)
at_changed (e ∷ es) h n k at =
    let (now, one) = at_edited e h n k at in
    let (then, rest) = at_changed es (edited e h) n k now in
    (then, rest ∙ one)

-- ---- what a build used
-- the used place is in the tables, and the input has its version
abbrev pub IsRight : List TableData → Chosen → UsedData → Type 0
IsRight ts inputs u = IsAt ts u.scope u.place × (version_of inputs u.input ≡ version_in ts u.scope u.place)

pub right_changed : (es : List EditData) (h : HistoryData) (inputs : Chosen) (u : UsedData) → IsRight h.tables inputs u → IsRight (changed es h).tables inputs u
right_changed es h inputs u (at, is) = let (then, same) = at_changed es h u.scope u.place at in (then, is ∙ sym same)

-- a scope's versions are those under its number
pub number_versions : (s : ScopeData) (ts : List TableData) (k : ℕ) → 1 ≤ length (versions_of s ts) → version_in ts (scope_number s ts) k ≡ slice_index_or (versions_of s ts) (k - 1) []
number_versions s [] k h = absurd (omega (arith, h))
number_versions s (t ∷ ts) k h = by (is_scope s t.scope) (λ more. (number_there s ts more).0) (number_versions s ts k) h
  where
    by : (c : Bool) → (1 ≤ length (versions_of s ts) → 1 ≤ scope_number s ts) → (1 ≤ length (versions_of s ts) → version_in ts (scope_number s ts) k ≡ slice_index_or (versions_of s ts) (k - 1) []) → 1 ≤ length (cond c t.versions (versions_of s ts)) → version_in (t ∷ ts) (cond c 1 (cond (scope_number s ts == 0) 0 (scope_number s ts + 1))) k ≡ slice_index_or (cond c t.versions (versions_of s ts)) (k - 1) []
    by true low more h = refl
    by false low more h =
        let one = low h in
        let m = scope_number s ts in
        let none : (m == 0) ≡ false = ne_eqb m 0 (λ z. omega (arith, one, z)) in
        let is : cond (m == 0) 0 (m + 1) ≡ m + 1 = ap (λ c. cond c 0 (m + 1)) none in
        let other : ((m + 1) == 1) ≡ false = ne_eqb (m + 1) 1 (λ z. omega (arith, one, z)) in
        let back : m + 1 - 1 ≡ m = omega arith in
        ap (λ n. version_in (t ∷ ts) n k) is ∙ ap (λ c. cond c (slice_index_or t.versions (k - 1) []) (version_in ts (m + 1 - 1) k)) other ∙ ap (λ n. version_in ts n k) back ∙ more h

-- the place of an input is in the tables, with the version that is chosen for it
right_one : (p : PipelineData) (h : HistoryData) (i : InputData) (n : ℕ) → IsPlaced p h i n → IsAt h.tables (history_number p h i.resource) n × (version_at p h i.resource n ≡ version_in h.tables (history_number p h i.resource) n)
right_one p h i n (x, at, low, high) =
    let some : 1 ≤ length (versions_of (scope_of x) h.tables) = omega (arith, low, high) in
    let (one, same) = number_there (scope_of x) h.tables some in
    let number : history_number p h i.resource ≡ scope_number (scope_of x) h.tables = ap (λ o. option_map_or (λ r. scope_number (scope_of r) h.tables) o 0) at in
    let list : versions_seen p h i.resource ≡ versions_of (scope_of x) h.tables = ap (λ o. option_map_or (λ r. versions_of (scope_of r) h.tables) o []) at in
    let there : n ≤ places_at h.tables (scope_number (scope_of x) h.tables) = omega (arith, high, same) in (
      subst (λ m. IsAt h.tables m n) (sym number) (low, there),
      ap (λ vs. slice_index_or vs (n - 1) []) list ∙ sym (number_versions (scope_of x) h.tables n some) ∙ ap (λ m. version_in h.tables m n) (sym number),
    )

right_used : (p : PipelineData) (h : HistoryData) (is : List InputData) (ns : List ℕ) → ArePlaced p h is ns → IsDistinct bytes_eq (map (λ i. i.name) is) → AllByRecursion (IsRight h.tables (chosen (map (λ i. i.name) is) (versions_at p h is ns))) (used_at p h is ns)
right_used p h [] [] placed distinct = tt
right_used p h [] (n ∷ ns) placed distinct = tt
right_used p h (i ∷ is) [] placed distinct = absurd placed
right_used p h (i ∷ is) (n ∷ ns) (one, rest) distinct =
    let (at, same) = right_one p h i n one in
    let v = version_at p h i.resource n in (
      (at, ap (λ t. cond t v (version_of (chosen (map (λ i. i.name) is) (versions_at p h is ns)) i.name)) ((bytes_eq-Decides i.name i.name).1 refl) ∙ same),
      all_both (λ u right apart. (right.0, ap (λ t. cond t (version_at p h i.resource n) (version_of (chosen (map (λ i. i.name) is) (versions_at p h is ns)) u.input)) apart ∙ right.1)) (used_at p h is ns)
          (right_used p h is ns rest (IsDistinct-tail bytes_eq i.name (map (λ i. i.name) is) distinct))
          (used_names (λ y. bytes_eq i.name y ≡ false) p h is ns (IsDistinct-head bytes_eq i.name (map (λ i. i.name) is) distinct)),
    )

-- ---- in order of names
all_with_used : (P : UsedData → Type 0) → (u : UsedData) (us : List UsedData) → P u → AllByRecursion P us → AllByRecursion P (with_used u us)
all_with_used P u [] p h = (p, tt)
all_with_used P u (v ∷ us) p h = by (slice_cmp nat_cmp u.input v.input) (all_with_used P u us p h.1)
  where
    by : (o : Ordering) → AllByRecursion P (with_used u us) → AllByRecursion P (match_ordering o (u ∷ v ∷ us) (u ∷ v ∷ us) (v ∷ with_used u us))
    by Less more = (p, h)
    by Equal more = (p, h)
    by Greater more = (h.0, more)

all_by_input : (P : UsedData → Type 0) → (us : List UsedData) → AllByRecursion P us → AllByRecursion P (by_input us)
all_by_input P [] h = tt
all_by_input P (u ∷ us) h = all_with_used P u (by_input us) h.0 (all_by_input P us h.1)

-- ---- each input has its place
any_with_used : (test : UsedData → Bool) (u : UsedData) (us : List UsedData) → (test u || list_any test us) ≡ true → list_any test (with_used u us) ≡ true
any_with_used test u [] h = h
any_with_used test u (v ∷ us) h = by (slice_cmp nat_cmp u.input v.input) (any_with_used test u us) h
  where
    -- the head comes first, or behind the others
    swap : (a b c : Bool) → ((a || c) ≡ true → list_any test (with_used u us) ≡ true) → (a || (b || c)) ≡ true → (b || list_any test (with_used u us)) ≡ true
    swap a true c more h = refl
    swap a false c more h = more h

    by : (o : Ordering) → ((test u || list_any test us) ≡ true → list_any test (with_used u us) ≡ true) → (test u || (test v || list_any test us)) ≡ true → list_any test (match_ordering o (u ∷ v ∷ us) (u ∷ v ∷ us) (v ∷ with_used u us)) ≡ true
    by Less more h = h
    by Equal more h = h
    by Greater more h = swap (test u) (test v) (list_any test us) more h

any_by_input : (test : UsedData → Bool) (us : List UsedData) → list_any test us ≡ true → list_any test (by_input us) ≡ true
any_by_input test [] h = h
any_by_input test (u ∷ us) h = any_with_used test u (by_input us) (by (test u) (any_by_input test us) h)
  where
    by : (t : Bool) → (list_any test us ≡ true → list_any test (by_input us) ≡ true) → (t || list_any test us) ≡ true → (t || list_any test (by_input us)) ≡ true
    by true more h = refl
    by false more h = more h

or_last : (a b : Bool) → b ≡ true → (a || b) ≡ true
or_last true b e = refl
or_last false b e = e

each_used : (p : PipelineData) (h : HistoryData) (is : List InputData) (ns : List ℕ) → ArePlaced p h is ns → AllByRecursion (λ i. is_used_for (used_at p h is ns) i.0 ≡ true) (chosen (map (λ i. i.name) is) (versions_at p h is ns))
each_used p h [] [] placed = tt
each_used p h [] (n ∷ ns) placed = absurd placed
each_used p h (i ∷ is) [] placed = absurd placed
each_used p h (i ∷ is) (n ∷ ns) (one, rest) = (
  ap (λ t. t || is_used_for (used_at p h is ns) i.name) ((bytes_eq-Decides i.name i.name).1 refl),
  all_weaker (λ y there. or_last (bytes_eq y.0 i.name) (is_used_for (used_at p h is ns) y.0) there) (chosen (map (λ i. i.name) is) (versions_at p h is ns)) (each_used p h is ns rest),
)

pub begun_each : (p : PipelineData) (h : HistoryData) (is : List InputData) (ns : List ℕ) → ArePlaced p h is ns → AllByRecursion (λ i. is_used_for (by_input (used_at p h is ns)) i.0 ≡ true) (chosen (map (λ i. i.name) is) (versions_at p h is ns))
begun_each p h is ns placed = all_weaker (λ y there. any_by_input (λ u. bytes_eq y.0 u.input) (used_at p h is ns) there) (chosen (map (λ i. i.name) is) (versions_at p h is ns)) (each_used p h is ns placed)

-- what a new build used is right
pub begun_right : (p : PipelineData) (h : HistoryData) (is : List InputData) (ns : List ℕ) → ArePlaced p h is ns → IsDistinct bytes_eq (map (λ i. i.name) is) → AllByRecursion (IsRight h.tables (chosen (map (λ i. i.name) is) (versions_at p h is ns))) (by_input (used_at p h is ns))
begun_right p h is ns placed distinct = all_by_input (IsRight h.tables (chosen (map (λ i. i.name) is) (versions_at p h is ns))) (used_at p h is ns) (right_used p h is ns placed distinct)
