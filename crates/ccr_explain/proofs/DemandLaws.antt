-- The demands of a problem are all that it asks.
use Rattle.std.proofs.Common.{◌≡◌, ℕ, zero, suc, ◌+◌, ◌<◌, ◌≤◌, inl, inr, true, nat_le, nat_lt, ◌&&◌, List, [], ◌∷◌, ◌++◌, length, map, slice_index, slice_index_or, sym, ◌∙◌, subst, arith}
use Rattle.std.specs.Prelude.{All, Contains}
use Rattle.std.proofs.lemmas.Bool.{and_parts, leb-true, cases_eq, cases_lt}
use Rattle.std.proofs.lemmas.List.{get_or_default}
use Rattle.std.proofs.lemmas.List.Elements.{All-nil, All-cons, All-append, All-map, All-contains, Contains-append_left, Contains-append_right, Contains-get_or}
use Rattle.ccr_choice.specs.Problem.{ProblemValue, InputValue, no_input, input_at, builds_at, is_problem, is_after, is_input, are_inputs, are_distinct, are_numbered, are_places_after, next_used, used_after, jobs_after}
use Rattle.ccr_choice.specs.Satisfies.{Satisfies, Moved, IsAllowed, IsSuccessful, HasPassed, HasPassedAll}
use Rattle.ccr_choice.specs.Optimal.{HasNoChoice}
use Rattle.ccr_choice.specs.Preference.{order_of}
use Rattle.ccr_choice.proofs.Bounds.{rules_of}
use Rattle.ccr_choice.proofs.Members.{contains_first, contains_later, any_more}
use Rattle.ccr_resolve.specs.Chosen.{IsChosen}
use Rattle.ccr_resolve.specs.declared.chosen.Chosen.{Chosen}
use Rattle.ccr_resolve.specs.declared.chosen.Chosen.TheVariants.{Nothing}
use Rattle.ccr_explain.specs.declared.demand.Demand.{Demand}
use Rattle.ccr_explain.specs.declared.demand.Demand.TheVariants.{Allowed, Passed}
use Rattle.ccr_explain.specs.Demand.{IsDemandOf, demands_from, demands_of, Meets, MeetsAll, CanBeMet}
use Rattle.ccr_explain.specs.Clash.{IsClash}
use Rattle.ccr_explain.proofs.Lists.{contains_map, all_contained}

-- ---- fewer demands
pub meets_fewer : (p : ProblemValue) (fewer ds : List Demand) (places builds : List ℕ) → All (Contains ds) fewer → MeetsAll p ds places builds → MeetsAll p fewer places builds
meets_fewer p fewer ds places builds among m = record {
  lengths = m.lengths;
  each = λ k d within. All-contains (Meets p places builds) ds (slice_index_or fewer k d) m.each (among k d within);
}

pub fewer_met : (p : ProblemValue) (fewer ds : List Demand) → All (Contains ds) fewer → CanBeMet p ds → CanBeMet p fewer
fewer_met p fewer ds among m = record { places = m.places; builds = m.builds; meets = meets_fewer p fewer ds m.places m.builds among m.meets }

-- ---- which demands there are
from_each : (P : Demand → Type 0) (n : ℕ) (xs : List InputValue)
    → ((i m : ℕ) → n + i ≡ m → i < length xs → P (Allowed m) × ((j : ℕ) → Contains (slice_index_or xs i no_input).jobs j → P (Passed m j)))
    → All P (demands_from n xs)
from_each P n [] h = All-nil P
from_each P n (x ∷ xs) h =
    let first = h 0 n (omega arith) (omega arith) in
    All-cons P (Allowed n) (map (λ j. Passed n j) x.jobs ++ demands_from (n + 1) xs) first.0
    (All-append P (map (λ j. Passed n j) x.jobs) (demands_from (n + 1) xs)
    (All-map P (λ j. Passed n j) x.jobs (all_contained (λ j. P (Passed n j)) x.jobs first.1))
    (from_each P (n + 1) xs (λ i m e within. h (suc i) m (omega arith) (omega arith))))

allowed_from : (n i m : ℕ) (xs : List InputValue) → n + i ≡ m → i < length xs → Contains (demands_from n xs) (Allowed m)
allowed_from n i m [] e within = absurd (omega arith)
allowed_from n zero m (x ∷ xs) e within =
    let same : n ≡ m = omega arith in
    let P : ℕ → Type 0 = λ k. Contains (demands_from n (x ∷ xs)) (Allowed k) in
    subst P same (contains_first (Allowed n) (map (λ j. Passed n j) x.jobs ++ demands_from (n + 1) xs))
allowed_from n (suc i) m (x ∷ xs) e within =
    contains_later (Allowed n) (Allowed m) (map (λ j. Passed n j) x.jobs ++ demands_from (n + 1) xs)
    (Contains-append_right (map (λ j. Passed n j) x.jobs) (demands_from (n + 1) xs) (Allowed m) (allowed_from (n + 1) i m xs (omega arith) (omega arith)))

passed_from : (n i m j : ℕ) (xs : List InputValue) → n + i ≡ m → i < length xs → Contains (slice_index_or xs i no_input).jobs j → Contains (demands_from n xs) (Passed m j)
passed_from n i m j [] e within named = absurd (omega arith)
passed_from n zero m j (x ∷ xs) e within named =
    let same : n ≡ m = omega arith in
    let P : ℕ → Type 0 = λ k. Contains (demands_from n (x ∷ xs)) (Passed k j) in
    subst P same (contains_later (Allowed n) (Passed n j) (map (λ j. Passed n j) x.jobs ++ demands_from (n + 1) xs)
    (Contains-append_left (map (λ j. Passed n j) x.jobs) (demands_from (n + 1) xs) (Passed n j) (contains_map (λ j. Passed n j) j x.jobs named)))
passed_from n (suc i) m j (x ∷ xs) e within named =
    contains_later (Allowed n) (Passed m j) (map (λ j. Passed n j) x.jobs ++ demands_from (n + 1) xs)
    (Contains-append_right (map (λ j. Passed n j) x.jobs) (demands_from (n + 1) xs) (Passed m j) (passed_from (n + 1) i m j xs (omega arith) (omega arith) named))

pub demands_are : (p : ProblemValue) → All (IsDemandOf p) (demands_of p)
demands_are p =
    from_each (IsDemandOf p) 0 p.inputs (λ i m e within. (let same : i ≡ m = omega arith in
    let P : ℕ → Type 0 = λ k. (k < length p.inputs) × ((j : ℕ) → Contains (input_at p i).jobs j → (k < length p.inputs) × Contains (input_at p k).jobs j) in
    subst P same (within, λ j named. (within, named))))

among_demands : (p : ProblemValue) (d : Demand) → IsDemandOf p d → Contains (demands_of p) d
among_demands p (Allowed i) h = allowed_from 0 i i p.inputs (omega arith) h
among_demands p (Passed i j) h = passed_from 0 i i j p.inputs (omega arith) h.0 h.1

pub all_among : (p : ProblemValue) (ds : List Demand) → All (IsDemandOf p) ds → All (Contains (demands_of p)) ds
all_among p ds all = λ k d within. among_demands p (slice_index_or ds k d) (all k d within)

-- ---- each job is named by an input
numbered_has : (used : ℕ) (ns : List ℕ) (j : ℕ) → are_numbered used ns ≡ true → used ≤ j → j < used_after used ns → Contains ns j
numbered_has used [] j h from below = absurd (omega arith)
numbered_has used (n ∷ ns) j h from below =
    let parts = and_parts (nat_le n used) (nat_lt n 32 && are_numbered (next_used used n) ns) h in
    let rest = and_parts (nat_lt n 32) (are_numbered (next_used used n) ns) parts.1 in
    elim (cases_eq n j) [
      | inl same ↦ (let P : ℕ → Type 0 = λ k. Contains (n ∷ ns) k in subst P same (contains_first n ns))
      | inr differs ↦ (let low = leb-true n used parts.0 in
          contains_later n j ns (numbered_has (next_used used n) ns j rest.1 (grind arith) below))
    ]

pub record Names (xs : List InputValue) (j : ℕ) : Type 0 where
  pub input : ℕ
  pub within : input < length xs
  pub named : Contains (slice_index_or xs input no_input).jobs j

inputs_name : (scopes used : ℕ) (xs : List InputValue) (j : ℕ) → are_inputs scopes used xs ≡ true → used ≤ j → j < jobs_after used xs → Names xs j
inputs_name scopes used [] j h from below = absurd (omega arith)
inputs_name scopes used (x ∷ xs) j h from below =
    let parts = and_parts (is_input scopes used x) (are_inputs (next_used scopes x.scope) (used_after used x.jobs) xs) h in
    let one = and_parts (nat_le x.scope scopes) (are_distinct x.jobs && (are_numbered used x.jobs && (is_after x.after && are_places_after 0 x.places))) parts.0 in
    let two = and_parts (are_distinct x.jobs) (are_numbered used x.jobs && (is_after x.after && are_places_after 0 x.places)) one.1 in
    let numbered = (and_parts (are_numbered used x.jobs) (is_after x.after && are_places_after 0 x.places) two.1).0 in
    elim (cases_lt j (used_after used x.jobs)) [
      | inl here ↦ record { input = 0; within = omega arith; named = numbered_has used x.jobs j numbered from here }
      | inr later ↦ (let rest = inputs_name (next_used scopes x.scope) (used_after used x.jobs) xs j parts.1 later below in
          record { input = suc rest.input; within = omega (arith, rest.within); named = rest.named })
    ]

pub named_by : (p : ProblemValue) → is_problem p ≡ true → (j : ℕ) → j < length p.jobs → Names p.inputs j
named_by p rules j within =
    let r = rules_of p rules in
    inputs_name 0 0 p.inputs j r.inputs (omega arith) (omega (arith, within, r.counted))

-- ---- meeting a demand
pub allowed_met : (p : ProblemValue) (places builds : List ℕ) (i : ℕ) (d : Demand) → d ≡ Allowed i → Contains (input_at p i).places (slice_index places i) → Meets p places builds d
unfolding IsAllowed
allowed_met p places builds i d is h = let P : Demand → Type 0 = λ e. Meets p places builds e in subst P (sym is) h

pub passed_met : (p : ProblemValue) (places builds : List ℕ) (i j : ℕ) (d : Demand) → d ≡ Passed i j
    → Moved (builds_at p j) (slice_index builds j) ((input_at p i).scope, slice_index places i) → Meets p places builds d
unfolding HasPassed
passed_met p places builds i j d is h = let P : Demand → Type 0 = λ e. Meets p places builds e in subst P (sym is) h

-- ---- satisfying is meeting all demands
-- what is passed with a job of the list
pub passed_of : (p : ProblemValue) (places builds : List ℕ) (i j : ℕ) → HasPassedAll p places builds i → Contains (input_at p i).jobs j → HasPassed p places builds i j
unfolding HasPassedAll
passed_of p places builds i j all (k, within, at) =
    let P : ℕ → Type 0 = λ m. HasPassed p places builds i m in
    subst P (get_or_default (input_at p i).jobs k 0 j within ∙ at) (all k within)

pub passed_each : (p : ProblemValue) (places builds : List ℕ) (i : ℕ) → ((j : ℕ) → Contains (input_at p i).jobs j → HasPassed p places builds i j) → HasPassedAll p places builds i
unfolding HasPassedAll
passed_each p places builds i each k within = each (slice_index (input_at p i).jobs k) (Contains-get_or (input_at p i).jobs k 0 within)

-- where a place has passed a job, its build is successful
pub passed_successful : (p : ProblemValue) (places builds : List ℕ) (i j : ℕ) → HasPassed p places builds i j → IsSuccessful p builds j
unfolding HasPassed IsSuccessful
passed_successful p places builds i j h =
    any_more (λ b. (b.number ≡ slice_index builds j) × Contains b.pairs ((input_at p i).scope, slice_index places i))
    (λ b. b.number ≡ slice_index builds j) (builds_at p j) (λ b both. both.0) h

pub meets_from : (p : ProblemValue) (places builds : List ℕ) → Satisfies p places builds → MeetsAll p (demands_of p) places builds
meets_from p places builds s = record {
  lengths = s.lengths;
  each = from_each (Meets p places builds) 0 p.inputs (λ i m e within. (let same : i ≡ m = omega arith in
      let P : ℕ → Type 0 = λ k. IsAllowed p places k × ((j : ℕ) → Contains (input_at p i).jobs j → HasPassed p places builds k j) in
      subst P same (s.allowed i within, λ j named. passed_of p places builds i j (s.passed i within) named)));
}

pub satisfies_from : (p : ProblemValue) → is_problem p ≡ true → (places builds : List ℕ) → MeetsAll p (demands_of p) places builds → Satisfies p places builds
satisfies_from p rules places builds m =
    let met : (d : Demand) → IsDemandOf p d → Meets p places builds d = λ d h. All-contains (Meets p places builds) (demands_of p) d m.each (among_demands p d h) in
    record {
      lengths = m.lengths;
      allowed = λ i within. met (Allowed i) within;
      successful = λ j within. (let by = named_by p rules j within in
          passed_successful p places builds by.input j (met (Passed by.input j) (by.within, by.named)));
      passed = λ i within. passed_each p places builds i (λ j named. met (Passed i j) (within, named));
    }

pub no_choice : (p : ProblemValue) (ds : List Demand) → IsClash p ds → HasNoChoice p
no_choice p ds clash places builds s =
    clash.exclude places builds (meets_fewer p ds (demands_of p) places builds (all_among p ds clash.demands) (meets_from p places builds s))

pub all_clash : (p : ProblemValue) (ds : List Demand) → is_problem p ≡ true → ds ≡ demands_of p → HasNoChoice p → IsClash p ds
all_clash p ds rules e none =
    let P : List Demand → Type 0 = λ xs. IsClash p xs in
    subst P (sym e) (record { demands = demands_are p; exclude = λ places builds m. none places builds (satisfies_from p rules places builds m) })

-- where nothing is chosen for the problem of an index, there is no choice
pub nothing_chosen : (p q : ProblemValue) (budget : ℕ) (x : Chosen) → q ≡ p → x ≡ Nothing → IsChosen (order_of q) q budget x → HasNoChoice p
nothing_chosen p q budget x same is h =
    let P : Chosen → Type 0 = λ y. IsChosen (order_of q) q budget y in
    let Q : ProblemValue → Type 0 = λ r. HasNoChoice r in
    subst Q same (subst P is h)
