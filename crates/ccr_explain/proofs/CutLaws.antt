-- A choice satisfies the cut problem exactly where some choice meets the demands.
use Rattle.std.proofs.Common.{◌≡◌, ◌↔◌, ℕ, zero, suc, ◌+◌, ◌<◌, ◌≤◌, inl, inr, Bool, true, false, ◌==◌, nat_le, cond, List, [], ◌∷◌, length, map, slice_index, slice_index_or, refl, sym, ap, ◌∙◌, subst, arith}
use Rattle.std.specs.Prelude.{All, Contains, filter}
use Rattle.std.specs.List.{list_any, list_all, range_with_len}
use Rattle.std.proofs.lemmas.Bool.{cases_Bool, cases_eq, cond-true, cond-false, and_parts, and_from, eq-eqb, eqb-true, false≢true}
use Rattle.std.proofs.lemmas.List.{length-map, get_or-map, get_or_default}
use Rattle.std.proofs.lemmas.List.FromFn.{length-map-range_with_len, get_or-map-range_with_len}
use Rattle.std.proofs.lemmas.List.Elements.{All-contains, All-get_or, Contains-get_or}
use Rattle.ccr_choice.specs.Problem.{ProblemValue, InputValue, BuildValue, no_input, input_at, builds_at, is_problem, scopes_after, are_builds_below}
use Rattle.ccr_choice.specs.Satisfies.{Satisfies, Moved, IsAllowed, HasPassed}
use Rattle.ccr_choice.specs.Optimal.{HasNoChoice}
use Rattle.ccr_choice.proofs.Bounds.{builds_kept}
use Rattle.ccr_choice.proofs.Members.{contains_none, contains_first, contains_later, tests_contains}
use Rattle.ccr_choice.specs.Preference.{order_of}
use Rattle.ccr_resolve.specs.Chosen.{IsChosen}
use Rattle.ccr_resolve.specs.declared.chosen.Chosen.{Chosen}
use Rattle.ccr_resolve.specs.declared.chosen.Chosen.TheVariants.{Best, Nothing, OverBudget}
use Rattle.ccr_explain.specs.declared.demand.Demand.{Demand}
use Rattle.ccr_explain.specs.declared.demand.Demand.TheVariants.{Allowed, Passed}
use Rattle.ccr_explain.specs.Demand.{IsDemandOf, Meets, MeetsAll, CanBeMet, ExcludeEachOther}
use Rattle.ccr_explain.specs.Cut.{is_allowed_of, is_passed_of, jobs_left, place_in, top_for, cut_input, cut_from, has_place_of, names, is_of_use, order_left, inputs_cut, problem_with, IsTop, SuitsInputs, IsNarrowed, IsChosenOfCut, IsOverAt}
use Rattle.std.proofs.lemmas.List.Folds.{list_all-map}
use Rattle.ccr_explain.proofs.Lists.{contains_map, contains_filter, from_filter, all_passing}
use Rattle.ccr_explain.proofs.Orders.{has, has_it, it_has, place_below, place_at}
use Rattle.ccr_explain.proofs.CutRules.{builds_places, order_there, order_within, length_cut, cut_rules}
use Rattle.ccr_explain.proofs.NarrowLaws.{narrowed_long, suits_fewer, suits_more, suits, satisfies}

-- ---- which demands there are, as tests
is_that_allowed : (i : ℕ) (d : Demand) → (is_allowed_of i d ≡ true) ↔ (d ≡ Allowed i)
is_that_allowed i (Allowed n) = (λ h. ap (λ k. Allowed k) (eqb-true n i h), λ e. eq-eqb n i (cc (e)))
is_that_allowed i (Passed n m) = (λ h. absurd (false≢true h), λ e. absurd (cc (e)))

is_that_passed : (i j : ℕ) (d : Demand) → (is_passed_of i j d ≡ true) ↔ (d ≡ Passed i j)
is_that_passed i j (Allowed n) = (λ h. absurd (false≢true h), λ e. absurd (cc (e)))
is_that_passed i j (Passed n m) = (
  λ h. let parts = and_parts (n == i) (m == j) h in
      ap (λ k. Passed k m) (eqb-true n i parts.0) ∙ ap (λ k. Passed i k) (eqb-true m j parts.1),
  λ e. and_from (n == i) (m == j) (eq-eqb n i (cc (e))) (eq-eqb m j (cc (e))),
)

allowed_among : (ds : List Demand) (i : ℕ) → (list_any (is_allowed_of i) ds ≡ true) ↔ Contains ds (Allowed i)
allowed_among ds i = tests_contains (is_allowed_of i) (Allowed i) ds (is_that_allowed i)

passed_among : (ds : List Demand) (i j : ℕ) → (list_any (is_passed_of i j) ds ≡ true) ↔ Contains ds (Passed i j)
passed_among ds i j = tests_contains (is_passed_of i j) (Passed i j) ds (is_that_passed i j)

range_has : (low n x : ℕ) → low ≤ x → x < low + n → Contains (range_with_len low n) x
range_has low zero x from below = absurd (omega arith)
range_has low (suc n) x from below =
    elim (cases_eq low x) [
      | inl same ↦ (let P : ℕ → Type 0 = λ k. Contains (low ∷ range_with_len (low + 1) n) k in subst P same (contains_first low (range_with_len (low + 1) n)))
      | inr differs ↦ contains_later low x (range_with_len (low + 1) n) (range_has (low + 1) n x (omega arith) (omega arith))
    ]

cut_at : (ds : List Demand) (order : List ℕ) (top n i m : ℕ) (xs : List InputValue) → n + i ≡ m → i < length xs
    → slice_index_or (cut_from ds order top n xs) i no_input ≡ cut_input ds order top m (slice_index_or xs i no_input)
cut_at ds order top n i m [] e within = absurd (omega arith)
cut_at ds order top n zero m (x ∷ xs) e within =
    let same : n ≡ m = omega arith in ap (λ k. cut_input ds order top k x) same
cut_at ds order top n (suc i) m (x ∷ xs) e within = cut_at ds order top (n + 1) i m xs (omega arith) (omega arith)

-- where a job is left, any place up to the top one may be taken
top_left : (top : ℕ) (js : List ℕ) (j : ℕ) → Contains js j → top_for js top ≡ top
top_left top [] j h = absurd (contains_none j h)
top_left top (m ∷ js) j h = refl

top_least : (top : ℕ) (js : List ℕ) → 1 ≤ top → 1 ≤ top_for js top
top_least top [] least = omega arith
top_least top (m ∷ js) least = least

module _ (ds : List Demand) (top : ℕ) (p : ProblemValue) (rules : is_problem p ≡ true) (isTop : IsTop p top) (of_problem : All (IsDemandOf p) ds) where
  abbrev order : List ℕ
  order = order_left ds p

  abbrev xs : List InputValue
  xs = inputs_cut ds top p

  abbrev x_at : ℕ → InputValue
  x_at i = slice_index_or xs i no_input

  abbrev left : ℕ → List ℕ
  left i = jobs_left ds i (input_at p i).jobs

  -- the cut inputs
  input_cut : (i : ℕ) → i < length p.inputs → x_at i ≡ cut_input ds order top i (input_at p i)
  unfolding inputs_cut
  input_cut i within = cut_at ds order top 0 i i p.inputs (omega arith) within

  inputs_long : length xs ≡ length p.inputs
  unfolding inputs_cut
  inputs_long = length_cut ds order top 0 p.inputs

  -- what is left is demanded, and has its place
  left_demanded : (i j : ℕ) → Contains (left i) j → Contains ds (Passed i j)
  left_demanded i j h = (passed_among ds i j).0 (from_filter (λ k. list_any (is_passed_of i k) ds) j (input_at p i).jobs h).1

  demanded_left : (i j : ℕ) → Contains ds (Passed i j) → Contains (input_at p i).jobs j → Contains (left i) j
  demanded_left i j h named = contains_filter (λ k. list_any (is_passed_of i k) ds) j (input_at p i).jobs named ((passed_among ds i j).1 h)

  left_there : (i j : ℕ) → i < length p.inputs → Contains (left i) j → Contains order j
  unfolding order_left
  left_there i j within h = order_there ds 0 i i [] p.inputs j (omega arith) within h

  -- ---- from the cut inputs to the demands
  module _ (places builds : List ℕ) (place_each : length places ≡ length p.inputs) (s : SuitsInputs p order xs places builds) where
    builds_back : List ℕ
    builds_back = map (λ j. slice_index builds (place_in order j)) (range_with_len 0 (length p.jobs))

    back_at : (j : ℕ) → j < length p.jobs → slice_index builds_back j ≡ slice_index builds (place_in order j)
    unfolding builds_back
    back_at j within = get_or-map-range_with_len (λ k. slice_index builds (place_in order k)) 0 (length p.jobs) j j 0 within (omega arith)

    long : length builds_back ≡ length p.jobs
    unfolding builds_back
    long = length-map-range_with_len (λ j. slice_index builds (place_in order j)) 0 (length p.jobs)

    allowed_back : (i : ℕ) → i < length p.inputs → Contains ds (Allowed i) → IsAllowed p places i
    unfolding IsAllowed
    allowed_back i within h =
        let among = list_any (is_allowed_of i) ds in
        let e : (x_at i).places ≡ (input_at p i).places = ap (λ x. x.places) (input_cut i within)
        ∙ cond-true among (input_at p i).places (range_with_len 1 (top_for (left i) top)) ((allowed_among ds i).1 h) in
        let P : List ℕ → Type 0 = λ ys. Contains ys (slice_index places i) in
        subst P e (s.allowed i (omega (arith, within, inputs_long)))

    passed_back : (i j : ℕ) → i < length p.inputs → j < length p.jobs → Contains (left i) j → HasPassed p places builds_back i j
    unfolding HasPassed
    passed_back i j within known h =
        let n = place_in order j in
        let jobs : (x_at i).jobs ≡ map (place_in order) (left i) = ap (λ x. x.jobs) (input_cut i within) in
        let J : List ℕ → Type 0 = λ ys. Contains ys n in
        let named : Contains (x_at i).jobs n = subst J (sym jobs) (contains_map (place_in order) j (left i) h) in
        let B : ℕ → Type 0 = λ m. Moved (builds_at p m) (slice_index builds n) ((x_at i).scope, slice_index places i) in
        let S : ℕ → Type 0 = λ x. Moved (builds_at p j) (slice_index builds n) (x, slice_index places i) in
        let N : ℕ → Type 0 = λ x. Moved (builds_at p j) x ((input_at p i).scope, slice_index places i) in
        let now = subst B (place_at order j (left_there i j within h)) (s.passed i n (omega (arith, within, inputs_long)) named) in
        subst N (sym (back_at j known)) (subst S (ap (λ x. x.scope) (input_cut i within)) now)

    one_met : (d : Demand) → IsDemandOf p d → Contains ds d → Meets p places builds_back d
    one_met (Allowed i) h among = allowed_back i h among
    one_met (Passed i j) h among =
        let there = demanded_left i j among h.1 in
        let known = All-contains (λ k. k < length p.jobs) order j (order_within ds p rules) (left_there i j h.0 there) in
        passed_back i j h.0 known there

    pub met_back : CanBeMet p ds
    met_back = record {
      places = places;
      builds = builds_back;
      meets = record {
        lengths = record { place_each = place_each; build_each = long };
        each = λ k d within. one_met (slice_index_or ds k d) (of_problem k d within) (Contains-get_or ds k d within);
      };
    }

  -- ---- from the demands to the cut inputs
  module _ (places builds : List ℕ) (m : MeetsAll p ds places builds) where
    met : (d : Demand) → Contains ds d → Meets p places builds d
    met d among = All-contains (Meets p places builds) ds d m.each among

    -- the place of the choice, where the input may take it, else the first
    pub fits : ℕ → Bool
    fits i = has (x_at i).places (slice_index places i)

    pub pick : ℕ → ℕ
    pick i = cond (fits i) (slice_index places i) 1

    pub places_on : List ℕ
    places_on = map pick (range_with_len 0 (length p.inputs))

    pub builds_on : List ℕ
    builds_on = map (slice_index builds) order

    place_at_input : (i : ℕ) → i < length p.inputs → slice_index places_on i ≡ pick i
    unfolding places_on
    place_at_input i within = get_or-map-range_with_len pick 0 (length p.inputs) i i 0 within (omega arith)

    places_long : length places_on ≡ length p.inputs
    unfolding places_on
    places_long = length-map-range_with_len pick 0 (length p.inputs)

    build_at_job : (n : ℕ) → n < length order → slice_index builds_on n ≡ slice_index builds (slice_index order n)
    unfolding builds_on
    build_at_job n within = get_or-map (slice_index builds) order n 0 0 within

    builds_long : length builds_on ≡ length order
    unfolding builds_on
    builds_long = length-map order (slice_index builds)

    -- the places of the cut input
    places_kept : (i : ℕ) → i < length p.inputs → list_any (is_allowed_of i) ds ≡ true → (x_at i).places ≡ (input_at p i).places
    places_kept i within holds = ap (λ x. x.places) (input_cut i within) ∙ cond-true (list_any (is_allowed_of i) ds) (input_at p i).places (range_with_len 1 (top_for (left i) top)) holds

    places_free : (i : ℕ) → i < length p.inputs → list_any (is_allowed_of i) ds ≡ false → (x_at i).places ≡ range_with_len 1 (top_for (left i) top)
    places_free i within fails = ap (λ x. x.places) (input_cut i within) ∙ cond-false (list_any (is_allowed_of i) ds) (input_at p i).places (range_with_len 1 (top_for (left i) top)) fails

    -- where the allowed places are demanded, the choice's place fits
    demanded_fits : (i : ℕ) → i < length p.inputs → list_any (is_allowed_of i) ds ≡ true → fits i ≡ true
    unfolding fits IsAllowed
    demanded_fits i within holds =
        let P : List ℕ → Type 0 = λ xs. Contains xs (slice_index places i) in
        it_has (x_at i).places (slice_index places i) (subst P (sym (places_kept i within holds)) (met (Allowed i) ((allowed_among ds i).0 holds)))

    allowed_on : (i : ℕ) → i < length p.inputs → Contains (x_at i).places (slice_index places_on i)
    unfolding pick fits
    allowed_on i within =
        let xs = (x_at i).places in
        let P : ℕ → Type 0 = λ x. Contains xs x in
        elim (cases_Bool (fits i)) [
          | inl holds ↦ subst P (sym (place_at_input i within ∙ cond-true (fits i) (slice_index places i) 1 holds)) (has_it xs (slice_index places i) holds)
          | inr fails ↦ subst P (sym (place_at_input i within ∙ cond-false (fits i) (slice_index places i) 1 fails)) (elim (cases_Bool (list_any (is_allowed_of i) ds)) [
            | inl holds ↦ absurd (false≢true (sym fails ∙ demanded_fits i within holds))
            | inr free ↦ (let Q : List ℕ → Type 0 = λ ys. Contains ys 1 in
                subst Q (sym (places_free i within free)) (range_has 1 (top_for (left i) top) 1 (omega arith) (omega (arith, top_least top (left i) isTop.least))))
          ])
        ]

    -- a place that has passed a job fits
    moved_between : (j place : ℕ) (scope number : ℕ) → Contains order j → Moved (builds_at p j) number (scope, place) → (1 ≤ place) × (place ≤ top)
    moved_between j place scope number there (k, b, inside, at, (is, has)) =
        let known = All-contains (λ n. n < length p.jobs) order j (order_within ds p rules) there in
        let scopes = scopes_after 0 p.inputs in
        let kept = builds_places scopes 1000001 (builds_at p j)
        (and_parts (nat_le (length (builds_at p j)) 1000000) (are_builds_below scopes 1000001 (builds_at p j)) (builds_kept p j (builds_at p j) rules known refl)).1 in
        let among : Contains (builds_at p j) b = (k, inside, at) in
        let low = All-contains (λ r. (0 < r.1) × (r.1 ≤ 100000)) b.pairs (scope, place) (All-contains (λ c. All (λ r. (0 < r.1) × (r.1 ≤ 100000)) c.pairs) (builds_at p j) b kept among) has in
        let covered = All-get_or (λ bs. All (λ c. All (λ r. r.1 ≤ top) c.pairs) bs) p.jobs j [] known isTop.covers in
        let high = All-contains (λ r. r.1 ≤ top) b.pairs (scope, place) (All-contains (λ c. All (λ r. r.1 ≤ top) c.pairs) (builds_at p j) b covered among) has in
        (omega (arith, low.0), high)

    passed_fits : (i j : ℕ) → i < length p.inputs → Contains (left i) j → HasPassed p places builds i j → fits i ≡ true
    unfolding fits HasPassed
    passed_fits i j within left_over h =
        elim (cases_Bool (list_any (is_allowed_of i) ds)) [
          | inl holds ↦ demanded_fits i within holds
          | inr free ↦ (let P : List ℕ → Type 0 = λ xs. Contains xs (slice_index places i) in
              let between = moved_between j (slice_index places i) (input_at p i).scope (slice_index builds j) (left_there i j within left_over) h in
              it_has (x_at i).places (slice_index places i)
              (subst P (sym (places_free i within free)) (range_has 1 (top_for (left i) top) (slice_index places i) between.0 (omega (arith, between.1, top_left top (left i) j left_over)))))
        ]

    passed_left : (i j : ℕ) → Contains (left i) j → HasPassed p places builds i j
    passed_left i j h = met (Passed i j) (left_demanded i j h)

    passed_on : (i n : ℕ) → i < length p.inputs → (k : ℕ) → k < length (left i) → slice_index (map (place_in order) (left i)) k ≡ n
        → Moved (builds_at p (slice_index order n)) (slice_index builds_on n) ((x_at i).scope, slice_index places_on i)
    unfolding HasPassed pick fits
    passed_on i n within k inside e =
        let j = slice_index (left i) k in
        let h : Contains (left i) j = Contains-get_or (left i) k 0 inside in
        let there = left_there i j within h in
        let number : place_in order j ≡ n = sym (get_or-map (place_in order) (left i) k 0 0 inside) ∙ e in
        let same : slice_index order n ≡ j = ap (slice_index order) (sym number) ∙ place_at order j there in
        let below : n < length order = omega (arith, number, place_below order j there) in
        let passed = passed_left i j h in
        let place : slice_index places_on i ≡ slice_index places i = place_at_input i within ∙ cond-true (fits i) (slice_index places i) 1 (passed_fits i j within h passed) in
        let B : ℕ → Type 0 = λ m. Moved (builds_at p m) (slice_index builds m) ((input_at p i).scope, slice_index places i) in
        let N : ℕ → Type 0 = λ x. Moved (builds_at p (slice_index order n)) x ((input_at p i).scope, slice_index places i) in
        let S : ℕ → Type 0 = λ x. Moved (builds_at p (slice_index order n)) (slice_index builds_on n) (x, slice_index places i) in
        let L : ℕ → Type 0 = λ x. Moved (builds_at p (slice_index order n)) (slice_index builds_on n) ((x_at i).scope, x) in
        subst L (sym place) (subst S (sym (ap (λ x. x.scope) (input_cut i within))) (subst N (sym (build_at_job n below)) (subst B (sym same) passed)))

    pub suits_on : SuitsInputs p order xs places_on builds_on
    suits_on = record {
      allowed = λ i within. allowed_on i (omega (arith, within, inputs_long));
      passed = λ i n within named. (let inside : i < length p.inputs = omega (arith, within, inputs_long) in
          let jobs : (x_at i).jobs ≡ map (place_in order) (left i) = ap (λ x. x.jobs) (input_cut i inside) in
          let P : List ℕ → Type 0 = λ ys. Contains ys n in
          let there = subst P jobs named in
          let low : there.0 < length (left i) = omega (arith, there.1, length-map (left i) (place_in order)) in
          passed_on i n inside there.0 low (get_or_default (map (place_in order) (left i)) there.0 0 n there.1 ∙ there.2));
    }

  -- ---- the cut problem
  module _ (ys : List InputValue) (fewer : IsNarrowed p (order_left ds p) xs ys) where
    kept : is_problem (problem_with ds p ys) ≡ true
    kept = cut_rules ds top p ys rules isTop.least isTop.most fewer

    within_jobs : All (λ j. j < length p.jobs) (order_left ds p)
    within_jobs = order_within ds p rules

    pub met_of_choice : (places builds : List ℕ) → Satisfies (problem_with ds p ys) places builds → CanBeMet p ds
    unfolding problem_with
    met_of_choice places builds s =
        met_back places builds (s.lengths.place_each ∙ narrowed_long p order xs ys fewer ∙ inputs_long)
        (suits_more p order xs ys fewer places builds (suits p rules order within_jobs ys kept places builds s))

    -- where the cut problem has no choice, the demands exclude each other
    pub none_excludes : HasNoChoice (problem_with ds p ys) → ExcludeEachOther p ds
    unfolding problem_with
    none_excludes no_choice places builds m =
        no_choice (places_on places builds m) (builds_on places builds m)
        (satisfies p rules order within_jobs ys kept (places_on places builds m) (builds_on places builds m)
        (suits_fewer p order xs ys fewer (places_on places builds m) (builds_on places builds m) (suits_on places builds m))
        (places_long places builds m ∙ sym (narrowed_long p order xs ys fewer ∙ inputs_long)) (builds_long places builds m))

-- what is chosen for the cut problem tells whether the demands can be met
abbrev pub IsToldBy : ProblemValue → List Demand → ℕ → Chosen → Type 0
IsToldBy p ds budget (Best c) = CanBeMet p ds
IsToldBy p ds budget Nothing = ExcludeEachOther p ds
IsToldBy p ds budget (OverBudget n) = IsOverAt ds p budget

pub chosen_tells : (ds : List Demand) (p : ProblemValue) → All (IsDemandOf p) ds → (budget : ℕ) (x y : Chosen) → IsChosenOfCut ds p budget x → x ≡ y → IsToldBy p ds budget y
chosen_tells ds p of_problem budget x y h same =
    let P : ProblemValue → Type 0 = λ q. IsChosen (order_of q) q budget x in
    let Q : Chosen → Type 0 = λ z. IsToldBy p ds budget z in
    let cut = h.is_cut in
    subst Q same (told cut.rules cut.top cut.is_top cut.inputs cut.narrowed x (subst P cut.is h.chosen))
  where
    told : is_problem p ≡ true → (top : ℕ) → IsTop p top → (ys : List InputValue) → IsNarrowed p (order_left ds p) (inputs_cut ds top p) ys → (y : Chosen)
        → IsChosen (order_of (problem_with ds p ys)) (problem_with ds p ys) budget y → IsToldBy p ds budget y
    told rules top isTop ys fewer (Best c) h = met_of_choice ds top p rules isTop of_problem ys fewer c.places c.builds h.satisfies
    told rules top isTop ys fewer Nothing h = none_excludes ds top p rules isTop of_problem ys fewer h
    told rules top isTop ys fewer (OverBudget n) h = record {
      cut = problem_with ds p ys;
      is_cut = record { rules = rules; top = top; is_top = isTop; inputs = ys; narrowed = fewer; is = refl };
      below = h.1;
    }

-- ---- a build of use, by the inputs that name its job
-- where these are given by their names, a build is of use to them all exactly where it is of use
pub of_use_naming : {R : Type 0} (now : R → InputValue) (naming : List R) (inputs : List InputValue) (n : ℕ) (b : BuildValue) → map now naming ≡ filter (names n) inputs
    → list_all (λ x. has_place_of (now x) b.pairs) naming ≡ is_of_use inputs n b
of_use_naming now naming inputs n b are =
    sym (list_all-map (λ x. has_place_of x b.pairs) now naming) ∙ ap (list_all (λ x. has_place_of x b.pairs)) are ∙ all_passing (names n) (λ x. has_place_of x b.pairs) inputs
