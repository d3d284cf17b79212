-- The problem in which an input takes a place, and what an optimal choice says of it.
use Rattle.std.proofs.Common.{◌≡◌, ℕ, zero, suc, ◌+◌, ◌<◌, ◌≤◌, ◌⊎◌, inl, inr, Bool, true, not, nat_lt, nat_le, ◌==◌, ◌&&◌, cond, IsTrue, List, [], ◌∷◌, length, slice_index, slice_index_or, refl, sym, ap, ◌∙◌, subst, arith}
use Rattle.std.specs.Prelude.{Contains, filter}
use Rattle.std.specs.List.{list_all}
use Rattle.std.proofs.lemmas.Bool.{cases_Bool, cases_eq, cases_lt, cond-true, cond-false, and_parts, and_from, le-leb, ltb-true, lt-ltb, le-ltb, eqb-true, eq-eqb, ne_eqb, not-true, not_from_false, false_from_ne_true, false≢true}
use Rattle.ccr_choice.specs.Problem.{ProblemValue, InputValue, BuildValue, no_input, input_at, builds_at, next_used, used_after, scopes_after, jobs_after, are_distinct, are_numbered, are_places_after, is_after, is_input, are_inputs, are_builds, is_problem}
use Rattle.ccr_choice.specs.Satisfies.{Satisfies, Moved, IsAllowed, IsSuccessful, HasPassed, HasPassedAll}
use Rattle.ccr_choice.specs.Optimal.{IsOptimal}
use Rattle.ccr_choice.specs.Preference.{Preference, IsOrder, IsBetter}
use Rattle.ccr_choice.proofs.Bounds.{rules_of}
use Rattle.ccr_explain.specs.declared.demand.Demand.{Demand}
use Rattle.ccr_explain.specs.Clash.{IsClash}
use Rattle.ccr_explain.specs.WhyNot.{TakesPlace, CannotTake, may_take, narrowed_from, asked}
use Rattle.ccr_explain.proofs.Lists.{contains_filter, from_filter}
use Rattle.ccr_explain.proofs.DemandLaws.{no_choice, passed_of, passed_each}

-- ---- fewer places keep the rules
lower_places : (low high : ℕ) (xs : List ℕ) → low ≤ high → are_places_after high xs ≡ true → are_places_after low xs ≡ true
lower_places low high [] le h = refl
lower_places low high (x ∷ xs) le h =
    let parts = and_parts (nat_lt high x) (nat_le x 100000 && are_places_after x xs) h in
    and_from _ _ (lt-ltb low x (omega (arith, ltb-true high x parts.0))) parts.1

filtered_places : (test : ℕ → Bool) (low : ℕ) (xs : List ℕ) → are_places_after low xs ≡ true → are_places_after low (filter test xs) ≡ true
filtered_places test low [] h = refl
filtered_places test low (x ∷ xs) h =
    let parts = and_parts _ _ h in
    let more = and_parts _ _ parts.1 in
    let P : List ℕ → Type 0 = λ ys. are_places_after low ys ≡ true in
    elim (cases_Bool (test x)) [
      | inl holds ↦ subst P (sym (cond-true (test x) (x ∷ filter test xs) (filter test xs) holds))
          (and_from _ _ parts.0 (and_from _ _ more.0 (filtered_places test x xs more.1)))
      | inr fails ↦ subst P (sym (cond-false (test x) (x ∷ filter test xs) (filter test xs) fails))
          (lower_places low x (filter test xs) (omega (arith, ltb-true low x parts.0)) (filtered_places test x xs more.1))
    ]

pub record AreNarrowed (may : ℕ → ℕ → Bool) (k s used : ℕ) (xs : List InputValue) : Type 0 where
  pub inputs : are_inputs s used (narrowed_from may k xs) ≡ true
  pub jobs : jobs_after used (narrowed_from may k xs) ≡ jobs_after used xs
  pub scopes : scopes_after s (narrowed_from may k xs) ≡ scopes_after s xs

pub narrowed_rules : (may : ℕ → ℕ → Bool) (k s used : ℕ) (xs : List InputValue) → are_inputs s used xs ≡ true → AreNarrowed may k s used xs
narrowed_rules may k s used [] h = record { inputs = refl; jobs = refl; scopes = refl }
narrowed_rules may k s used (x ∷ xs) h =
    let parts = and_parts (is_input s used x) (are_inputs (next_used s x.scope) (used_after used x.jobs) xs) h in
    let a = and_parts (nat_le x.scope s) (are_distinct x.jobs && (are_numbered used x.jobs && (is_after x.after && are_places_after 0 x.places))) parts.0 in
    let b = and_parts (are_distinct x.jobs) (are_numbered used x.jobs && (is_after x.after && are_places_after 0 x.places)) a.1 in
    let c = and_parts (are_numbered used x.jobs) (is_after x.after && are_places_after 0 x.places) b.1 in
    let d = and_parts (is_after x.after) (are_places_after 0 x.places) c.1 in
    let rest = narrowed_rules may (k + 1) (next_used s x.scope) (used_after used x.jobs) xs parts.1 in
    record {
      inputs = and_from _ _ (and_from _ _ a.0 (and_from _ _ b.0 (and_from _ _ c.0 (and_from _ _ d.0 (filtered_places (may k) 0 x.places d.1))))) rest.inputs;
      jobs = rest.jobs;
      scopes = rest.scopes;
    }

pub length_narrowed : (may : ℕ → ℕ → Bool) (k : ℕ) (xs : List InputValue) → length (narrowed_from may k xs) ≡ length xs
length_narrowed may k [] = refl
length_narrowed may k (x ∷ xs) = ap (λ n. suc n) (length_narrowed may (k + 1) xs)

pub narrowed_at : (may : ℕ → ℕ → Bool) (n i m : ℕ) (xs : List InputValue) → n + i ≡ m → i < length xs
    → slice_index_or (narrowed_from may n xs) i no_input
    ≡ record (slice_index_or xs i no_input) { places = filter (may m) (slice_index_or xs i no_input).places }
narrowed_at may n i m [] e within = absurd (omega arith)
narrowed_at may n zero m (x ∷ xs) e within =
    let same : n ≡ m = omega arith in
    let f : ℕ → InputValue = λ k. record x { places = filter (may k) x.places } in
    ap f same
narrowed_at may n (suc i) m (x ∷ xs) e within = narrowed_at may (n + 1) i m xs (omega arith) (omega arith)

pub asked_rules : (prefers : Preference) (p : ProblemValue) (places : List ℕ) (i place : ℕ) → is_problem p ≡ true → is_problem (asked prefers p places i place) ≡ true
asked_rules prefers p places i place rules =
    let r = rules_of p rules in
    let may = may_take prefers places i place in
    let so = narrowed_rules may 0 0 0 p.inputs r.inputs in
    let inputs = narrowed_from may 0 p.inputs in
    let P : ℕ → Type 0 = λ s. list_all (are_builds s) p.jobs ≡ true in
    and_from _ _ (le-leb (length inputs) 32 (omega (arith, length_narrowed may 0 p.inputs, r.few_inputs)))
    (and_from _ _ so.inputs
    (and_from _ _ (eq-eqb (length p.jobs) (jobs_after 0 inputs) (r.counted ∙ sym so.jobs)) (subst P (sym so.scopes) r.builds)))

-- ---- who may take what
before_may : (prefers : Preference) (places : List ℕ) (i place k x : ℕ) → k < i → may_take prefers places i place k x ≡ not (prefers k (slice_index places k) x)
before_may prefers places i place k x less = cond-true (nat_lt k i) (not (prefers k (slice_index places k) x)) (cond (k == i) (x == place) true) (lt-ltb k i less)

here_may : (prefers : Preference) (places : List ℕ) (i place x : ℕ) → may_take prefers places i place i x ≡ (x == place)
here_may prefers places i place x =
    cond-false (nat_lt i i) (not (prefers i (slice_index places i) x)) (cond (i == i) (x == place) true) (le-ltb i i (omega arith))
    ∙ cond-true (i == i) (x == place) true (eq-eqb i i refl)

behind_may : (prefers : Preference) (places : List ℕ) (i place k x : ℕ) → i < k → may_take prefers places i place k x ≡ true
behind_may prefers places i place k x more =
    cond-false (nat_lt k i) (not (prefers k (slice_index places k) x)) (cond (k == i) (x == place) true) (le-ltb k i (omega arith))
    ∙ cond-false (k == i) (x == place) true (ne_eqb k i (λ e. omega arith))

module _ (prefers : Preference) (p : ProblemValue) (places : List ℕ) (i place : ℕ) where
  abbrev q : ProblemValue
  q = asked prefers p places i place

  abbrev may : ℕ → ℕ → Bool
  may = may_take prefers places i place

  input_asked : (k : ℕ) → k < length p.inputs → input_at q k ≡ record (input_at p k) { places = filter (may k) (input_at p k).places }
  input_asked k within = narrowed_at may 0 k k p.inputs (omega arith) within

  inputs_asked : length q.inputs ≡ length p.inputs
  inputs_asked = length_narrowed may 0 p.inputs

  -- what an input with the same scope and the same jobs has passed
  same_passed : (one other : ProblemValue) (others builds : List ℕ) (k : ℕ) → (input_at one k).scope ≡ (input_at other k).scope
      → (input_at one k).jobs ≡ (input_at other k).jobs → one.jobs ≡ other.jobs → HasPassedAll one others builds k → HasPassedAll other others builds k
  unfolding HasPassed
  same_passed one other others builds k scope jobs builds_same h =
      passed_each other others builds k (λ j named. (let J : List ℕ → Type 0 = λ xs. Contains xs j in
      let S : ℕ → Type 0 = λ x. Moved (builds_at one j) (slice_index builds j) (x, slice_index others k) in
      let B : List (List BuildValue) → Type 0 = λ js. Moved (slice_index_or js j []) (slice_index builds j) ((input_at other k).scope, slice_index others k) in
      subst B builds_same (subst S scope (passed_of one others builds k j h (subst J (sym jobs) named)))))

  -- where the choice of the question comes from
  taken_places : (others builds : List ℕ) → Satisfies q others builds → (k : ℕ) → k < length p.inputs
      → Contains (input_at p k).places (slice_index others k) × (may k (slice_index others k) ≡ true)
  unfolding IsAllowed
  taken_places others builds s k within =
      let P : InputValue → Type 0 = λ x. Contains x.places (slice_index others k) in
      from_filter (may k) (slice_index others k) (input_at p k).places (subst P (input_asked k within) (s.allowed k (omega (arith, within, inputs_asked))))

  pub takes_of : i < length p.inputs → (others builds : List ℕ) → Satisfies q others builds → TakesPlace prefers p places i place others builds
  unfolding IsAllowed IsSuccessful
  takes_of inside others builds s = record {
    satisfies = record {
      lengths = record { place_each = s.lengths.place_each ∙ inputs_asked; build_each = s.lengths.build_each };
      allowed = λ k within. (taken_places others builds s k within).0;
      successful = s.successful;
      passed = λ k within. same_passed q p others builds k (ap (λ x. x.scope) (input_asked k within)) (ap (λ x. x.jobs) (input_asked k within)) refl
          (s.passed k (omega (arith, within, inputs_asked)));
    };
    taken = eqb-true _ _ (sym (here_may prefers places i place (slice_index others i)) ∙ (taken_places others builds s i inside).1);
    none_worse = λ k less worse. (let within : k < length p.inputs = omega arith in
        let fine = not-true _ (sym (before_may prefers places i place k (slice_index others k) less) ∙ (taken_places others builds s k within).1) in
        absurd (false≢true (sym fine ∙ worse)));
  }

  may_so : (others builds : List ℕ) → TakesPlace prefers p places i place others builds → (k : ℕ) → may k (slice_index others k) ≡ true
  may_so others builds t k =
      elim (cases_lt k i) [
        | inl less ↦ before_may prefers places i place k (slice_index others k) less
            ∙ not_from_false (prefers k (slice_index places k) (slice_index others k)) (false_from_ne_true (prefers k (slice_index places k) (slice_index others k)) (t.none_worse k less))
        | inr from ↦ elim (cases_lt i k) [
          | inl more ↦ behind_may prefers places i place k (slice_index others k) more
          | inr to ↦ (let same : i ≡ k = omega arith in
              let P : ℕ → Type 0 = λ n. may n (slice_index others n) ≡ true in
              subst P same (here_may prefers places i place (slice_index others i) ∙ eq-eqb _ _ t.taken))
        ]
      ]

  pub takes_back : (others builds : List ℕ) → TakesPlace prefers p places i place others builds → Satisfies q others builds
  unfolding IsAllowed IsSuccessful
  takes_back others builds t = record {
    lengths = record { place_each = t.satisfies.lengths.place_each ∙ sym inputs_asked; build_each = t.satisfies.lengths.build_each };
    allowed = λ k inside. (let within : k < length p.inputs = omega (arith, inside, inputs_asked) in
        let P : InputValue → Type 0 = λ x. Contains x.places (slice_index others k) in
        subst P (sym (input_asked k within)) (contains_filter (may k) (slice_index others k) (input_at p k).places (t.satisfies.allowed k within) (may_so others builds t k)));
    successful = t.satisfies.successful;
    passed = λ k inside. (let within : k < length p.inputs = omega (arith, inside, inputs_asked) in
        same_passed p q others builds k (sym (ap (λ x. x.scope) (input_asked k within))) (sym (ap (λ x. x.jobs) (input_asked k within))) refl (t.satisfies.passed k within));
  }

  pub clash_shows : (ds : List Demand) → IsClash q ds → CannotTake prefers p places i place
  clash_shows ds clash others builds t = no_choice q ds clash others builds (takes_back others builds t)

-- ---- an optimal choice
-- up to input n the places are the same, or the others are better
first_better : (prefers : Preference) → IsOrder prefers → (places others : List ℕ) (n : ℕ) → n ≤ length others → n ≤ length places
    → ((k : ℕ) → k < n → ¬ IsTrue (prefers k (slice_index places k) (slice_index others k)))
    → IsBetter prefers others places ⊎ ((k : ℕ) → k < n → slice_index others k ≡ slice_index places k)
first_better prefers order places others zero one two fine = inr (λ k less. absurd (omega arith))
first_better prefers order places others (suc n) one two fine =
    elim (first_better prefers order places others n (omega arith) (omega arith) (λ k less. fine k (omega arith))) [
      | inl better ↦ inl better
      | inr same ↦ elim (cases_eq (slice_index others n) (slice_index places n)) [
        | inl here ↦ inr (λ k less. elim (cases_eq k n) [
          | inl is ↦ (let P : ℕ → Type 0 = λ m. slice_index others m ≡ slice_index places m in subst P (sym is) here)
          | inr before ↦ same k (omega arith)
        ])
        | inr differs ↦ elim (order.total n (slice_index others n) (slice_index places n) differs) [
          | inl better ↦ inl (record { first = n; within = omega arith; reached = omega arith; same_before = same; preferred = better })
          | inr worse ↦ absurd (fine n (omega arith) worse)
        ]
      ]
    ]

pub better_costs : (prefers : Preference) → IsOrder prefers → (p : ProblemValue) (places builds : List ℕ) → IsOptimal prefers p places builds
    → (i place : ℕ) → i < length p.inputs → IsTrue (prefers i place (slice_index places i)) → CannotTake prefers p places i place
better_costs prefers order p places builds best i place inside preferred others their_builds t =
    let long : i < length others = omega (arith, inside, t.satisfies.lengths.place_each) in
    let reached : i < length places = omega (arith, inside, best.satisfies.lengths.place_each) in
    let P : ℕ → Type 0 = λ x. IsTrue (prefers i x (slice_index places i)) in
    best.none_better others their_builds t.satisfies (elim (first_better prefers order places others i (omega arith) (omega arith) t.none_worse) [
      | inl better ↦ better
      | inr same ↦ record { first = i; within = long; reached = reached; same_before = same; preferred = subst P (sym t.taken) preferred }
    ])
