-- What is chosen for a build was seen.
use Rattle.std.proofs.Common.{◌≡◌, ℕ, zero, suc, ◌+◌, ◌-◌, ◌<◌, ◌≤◌, Bool, true, false, not, cond, ◌||◌, IsTrue, List, [], ◌∷◌, length, map, filter, get_or, AllPairs, Contains, Option, Some, None, bytes_eq, refl, sym, ap, ◌∙◌, subst, arith}
use Rattle.std.specs.Prelude.{slice_index, slice_index_or, ◌≢◌}
use Rattle.std.specs.List.{AllByRecursion, IsDistinct, enumerate_from}
use Rattle.std.specs.Option.{option_map_or}
use Rattle.std.proofs.lemmas.List.Elements.{All-from_recursion}
use Rattle.std.proofs.lemmas.List.Kept.{AllPairs-cons}
use Rattle.std.proofs.lemmas.Map.Keys.{IsDistinct-head, IsDistinct-tail}
use Rattle.std.proofs.lemmas.Slice.Eq.{bytes_eq-Decides}
use Rattle.ccr_history.specs.TextMap.{TextMap, is_version}
use Rattle.ccr_history.specs.Tables.{has_version, versions_of, scope_number}
use Rattle.ccr_history.specs.Changes.{AreUsed}
use Rattle.ccr_history.specs.History.{HistoryData, IsUsed, has_place}
use Rattle.ccr_pipeline.specs.Inputs.{InputData}
use Rattle.ccr_pipeline.specs.JobData.{ResourceData}
use Rattle.ccr_pipeline.specs.Pipelines.{PipelineData}
use Rattle.ccr_pipeline.specs.Tree.{Text}
use Rattle.ccr_choice.specs.Problem.{ProblemValue, no_input, input_at}
use Rattle.ccr_choice.specs.Satisfies.{Satisfies, IsAllowed}
use Rattle.ccr_steps.specs.Asks.{Chosen, chosen, version_of}
use Rattle.ccr_steps.specs.Gains.{MovedData}
use Rattle.ccr_problem.specs.Allowed.{PinsData, meets_all, places_from, allowed_places}
use Rattle.ccr_problem.specs.ProblemOf.{resource_of, scope_of, history_number, pins_of, is_disabled_at, input_places, used_resources, input_value, problem_with}
use Rattle.ccr_core.specs.Choices.{used_at, versions_at}
use Rattle.ccr_core.specs.Seen.{version_at}
use Rattle.ccr_core.proofs.Moving.{moved_of, IsGot}
use Rattle.ccr_core.proofs.RunningLists.{all_weaker, all_both}
use Rattle.ccr_core.proofs.Seeing.{version_itself, place_is}

-- a version of a resource was seen, in the resource's scope
abbrev pub IsSeen : PipelineData → HistoryData → MovedData → Type 0
IsSeen p h m = (x : ResourceData) × (resource_of m.resource p.resources ≡ Some x) × (has_version (versions_of (scope_of x) h.tables) m.version ≡ true)

-- ---- allowed places
all_index : {X : Type 0} → (P : X → Type 0) → (xs : List X) (k : ℕ) (d : X) → AllByRecursion P xs → k < length xs → P (get_or xs k d)
all_index P xs k d h lt = All-from_recursion P xs h k d lt

numbered_up : {X : Type 0} → (n : ℕ) (xs : List X) → AllByRecursion (λ (y : ℕ × X). (n ≤ y.0) × (y.0 < n + length xs)) (enumerate_from n xs)
numbered_up n [] = tt
numbered_up n (x ∷ xs) = ((omega arith, omega arith), all_weaker (λ y h. let (low, high) = h in (omega (arith, low), omega (arith, high))) (enumerate_from (n + 1) xs) (numbered_up (n + 1) xs))

all_filter : {X : Type 0} → (P : X → Type 0) → (test : X → Bool) (xs : List X) → AllByRecursion P xs → AllByRecursion P (filter test xs)
all_filter P test [] h = tt
all_filter P test (x ∷ xs) h = by (test x) (all_filter P test xs h.1)
  where
    by : (t : Bool) → AllByRecursion P (filter test xs) → AllByRecursion P (cond t (x ∷ filter test xs) (filter test xs))
    by true more = (h.0, more)
    by false more = more

pub all_map : {X Y : Type 0} → (P : Y → Type 0) (f : X → Y) (xs : List X) → AllByRecursion (λ x. P (f x)) xs → AllByRecursion P (map f xs)
all_map P f [] h = tt
all_map P f (x ∷ xs) h = (h.0, all_map P f xs h.1)

-- an allowed place is one of a version
allowed_is : (pins : PinsData) (disabled : ℕ → Bool) (vs : List TextMap) (n : ℕ) → Contains (allowed_places pins disabled vs) n → (1 ≤ n) × (n ≤ length vs)
allowed_is pins disabled vs n (k, lt, is) =
    let each = all_map (λ m. (1 ≤ m) × (m < 1 + length vs)) (λ (x : ℕ × TextMap). x.0) (filter (λ x. meets_all pins x.1) (enumerate_from 1 vs)) (all_filter (λ y. (1 ≤ y.0) × (y.0 < 1 + length vs)) (λ x. meets_all pins x.1) (enumerate_from 1 vs) (numbered_up 1 vs)) in
    let left = all_filter (λ m. (1 ≤ m) × (m < 1 + length vs)) (λ m. not (disabled m)) (places_from 1 pins vs) each in
    let (low, high) = subst (λ m. (1 ≤ m) × (m < 1 + length vs)) is (all_index (λ m. (1 ≤ m) × (m < 1 + length vs)) (allowed_places pins disabled vs) k n left lt) in
    (low, omega (arith, high))

-- the place is one of a version of the input's resource
abbrev pub IsPlaced : PipelineData → HistoryData → InputData → ℕ → Type 0
IsPlaced p h i n = (x : ResourceData) × (resource_of i.resource p.resources ≡ Some x) × (1 ≤ n) × (n ≤ length (versions_of (scope_of x) h.tables))

-- each input has such a place
abbrev pub ArePlaced : PipelineData → HistoryData → List InputData → List ℕ → Type 0
ArePlaced p h [] [] = Unit {0}
ArePlaced p h (i ∷ is) (n ∷ ns) = IsPlaced p h i n × ArePlaced p h is ns
ArePlaced p h [] (n ∷ ns) = ⊥
ArePlaced p h (i ∷ is) [] = ⊥

placed_one : (p : PipelineData) (h : HistoryData) (i : InputData) (n : ℕ) → Contains (input_places p h i) n → IsPlaced p h i n
placed_one p h i n c = by (resource_of i.resource p.resources) refl c
  where
    by : (o : Option ResourceData) → resource_of i.resource p.resources ≡ o → Contains (option_map_or (λ r. allowed_places (pins_of r h i) (is_disabled_at h (scope_number (scope_of r) h.tables)) (versions_of (scope_of r) h.tables)) o []) n → IsPlaced p h i n
    by None at (k, lt, is) = absurd (omega (arith, lt))
    by (Some x) at c = let (low, high) = allowed_is (pins_of x h i) (is_disabled_at h (scope_number (scope_of x) h.tables)) (versions_of (scope_of x) h.tables) n c in (x, at, low, high)

placed_each : (p : PipelineData) (h : HistoryData) (own : Text) (rs js : List Text) (is : List InputData) (ns : List ℕ) → length ns ≡ length is → ((k : ℕ) → k < length is → Contains (slice_index_or (map (input_value p h own rs js) is) k no_input).places (slice_index ns k)) → ArePlaced p h is ns
placed_each p h own rs js [] [] e each = tt
placed_each p h own rs js [] (n ∷ ns) e each = absurd (omega (arith, e))
placed_each p h own rs js (i ∷ is) [] e each = absurd (omega (arith, e))
placed_each p h own rs js (i ∷ is) (n ∷ ns) e each =
    (placed_one p h i n (each zero (omega arith)), placed_each p h own rs js is ns (omega (arith, e)) (λ k lt. each (suc k) (omega (arith, lt))))

allowed_at : (q : ProblemValue) (places : List ℕ) (i : ℕ) → IsAllowed q places i → Contains (input_at q i).places (slice_index places i)
unfolding IsAllowed
allowed_at q places i h = h

pub length_map : {X Y : Type 0} → (f : X → Y) (xs : List X) → length (map f xs) ≡ length xs
length_map f [] = refl
length_map f (x ∷ xs) = let e = length_map f xs in omega (arith, e)

-- the places of a choice that satisfies the problem of inputs are theirs
pub satisfied_placed : (p : PipelineData) (h : HistoryData) (own : Text) (is : List InputData) (places builds : List ℕ) → Satisfies (problem_with p h own is) places builds → ArePlaced p h is places
satisfied_placed p h own is places builds s =
    let e = length_map (input_value p h own (used_resources is) _) is in
    placed_each p h own (used_resources is) _ is places (s.lengths.place_each ∙ e) (λ k lt. allowed_at (problem_with p h own is) places k (s.allowed k (omega (arith, e, lt))))

-- ---- versions at places
has_at : (vs : List TextMap) (k : ℕ) → k < length vs → has_version vs (slice_index_or vs k []) ≡ true
has_at [] k lt = absurd (omega (arith, lt))
has_at (v ∷ vs) zero lt = ap (λ t. t || has_version vs v) (version_itself v)
has_at (v ∷ vs) (suc k) lt = later (is_version (slice_index_or vs k []) v) (has_at vs k (omega (arith, lt)))
  where
    later : (t : Bool) → has_version vs (slice_index_or vs k []) ≡ true → (t || has_version vs (slice_index_or vs k [])) ≡ true
    later true e = refl
    later false e = e

-- the version at an input's place was seen
version_seen : (p : PipelineData) (h : HistoryData) (i : InputData) (n : ℕ) → IsPlaced p h i n → IsSeen p h (moved_of i.resource (version_at p h i.resource n))
version_seen p h i n (x, at, low, high) =
    (x, at, ap (λ o. has_version (versions_of (scope_of x) h.tables) (slice_index_or (option_map_or (λ r. versions_of (scope_of r) h.tables) o []) (n - 1) [])) at ∙ has_at (versions_of (scope_of x) h.tables) (n - 1) (omega (arith, low, high)))

pub all_from_map : {X Y : Type 0} → (P : Y → Type 0) (f : X → Y) (xs : List X) → AllByRecursion P (map f xs) → AllByRecursion (λ x. P (f x)) xs
all_from_map P f [] h = tt
all_from_map P f (x ∷ xs) h = (h.0, all_from_map P f xs h.1)

-- what is chosen for inputs of different names was seen
pub chosen_seen : (p : PipelineData) (h : HistoryData) (is : List InputData) (ns : List ℕ) → ArePlaced p h is ns → IsDistinct bytes_eq (map (λ i. i.name) is) → AllByRecursion (IsGot (IsSeen p h) (chosen (map (λ i. i.name) is) (versions_at p h is ns))) is
chosen_seen p h [] [] placed distinct = tt
chosen_seen p h [] (n ∷ ns) placed distinct = tt
chosen_seen p h (i ∷ is) [] placed distinct = absurd placed
chosen_seen p h (i ∷ is) (n ∷ ns) (one, rest) distinct = (
  subst (λ v. IsSeen p h (moved_of i.resource v)) (sym (ap (λ t. cond t (version_at p h i.resource n) (version_of more i.name)) ((bytes_eq-Decides i.name i.name).1 refl))) (version_seen p h i n one),
  all_both (λ y g apart. subst (λ v. IsSeen p h (moved_of y.resource v)) (sym (ap (λ t. cond t (version_at p h i.resource n) (version_of more y.name)) apart)) g) is
      (chosen_seen p h is ns rest (IsDistinct-tail bytes_eq i.name (map (λ i. i.name) is) distinct))
      (all_from_map (λ y. bytes_eq i.name y ≡ false) (λ i. i.name) is (IsDistinct-head bytes_eq i.name (map (λ i. i.name) is) distinct)),
)
  where
    more : Chosen
    more = chosen (map (λ i. i.name) is) (versions_at p h is ns)

-- ---- what is used
used_one : (p : PipelineData) (h : HistoryData) (i : InputData) (n : ℕ) → IsPlaced p h i n → IsTrue (has_place h.tables (history_number p h i.resource) n)
used_one p h i n (x, at, low, high) =
    subst (λ o. IsTrue (has_place h.tables (option_map_or (λ r. scope_number (scope_of r) h.tables) o 0) n)) (sym at) (place_is (scope_of x) n h.tables low high)

used_places : (p : PipelineData) (h : HistoryData) (is : List InputData) (ns : List ℕ) → ArePlaced p h is ns → AllByRecursion (λ i. i.name ≢ []) is → AllByRecursion (IsUsed h.tables) (used_at p h is ns)
used_places p h [] [] placed named = tt
used_places p h [] (n ∷ ns) placed named = tt
used_places p h (i ∷ is) [] placed named = absurd placed
used_places p h (i ∷ is) (n ∷ ns) (one, rest) (name, named) = ((name, used_one p h i n one), used_places p h is ns rest named)

pub used_names : (P : Text → Type 0) (p : PipelineData) (h : HistoryData) (is : List InputData) (ns : List ℕ) → AllByRecursion P (map (λ i. i.name) is) → AllByRecursion (λ u. P u.input) (used_at p h is ns)
used_names P p h [] ns a = tt
used_names P p h (i ∷ is) [] a = tt
used_names P p h (i ∷ is) (n ∷ ns) a = (a.0, used_names P p h is ns a.1)

used_apart : (p : PipelineData) (h : HistoryData) (is : List InputData) (ns : List ℕ) → IsDistinct bytes_eq (map (λ i. i.name) is) → AllPairs (λ u v. bytes_eq u.input v.input ≡ false) (used_at p h is ns)
used_apart p h [] ns distinct = λ i j d before within. absurd (omega (arith, within))
used_apart p h (i ∷ is) [] distinct = λ i j d before within. absurd (omega (arith, within))
used_apart p h (i ∷ is) (n ∷ ns) distinct =
    AllPairs-cons (λ u v. bytes_eq u.input v.input ≡ false) _ (used_at p h is ns)
    (All-from_recursion (λ u. bytes_eq i.name u.input ≡ false) (used_at p h is ns)
    (used_names (λ y. bytes_eq i.name y ≡ false) p h is ns (IsDistinct-head bytes_eq i.name (map (λ i. i.name) is) distinct)))
    (used_apart p h is ns (IsDistinct-tail bytes_eq i.name (map (λ i. i.name) is) distinct))

-- a history takes what is used
pub are_used : (p : PipelineData) (h : HistoryData) (is : List InputData) (ns : List ℕ) → ArePlaced p h is ns → IsDistinct bytes_eq (map (λ i. i.name) is) → AllByRecursion (λ i. i.name ≢ []) is → AreUsed h.tables (used_at p h is ns)
are_used p h is ns placed distinct named = (used_apart p h is ns distinct, used_places p h is ns placed named)
