-- Jobs in order of first mention: each once, and numbered by how many stand before it.
use Rattle.std.proofs.Common.{◌≡◌, ◌≢◌, ℕ, zero, suc, ◌+◌, ◌<◌, ◌≤◌, inl, inr, Bool, true, false, not, ◌==◌, List, [], ◌∷◌, ◌++◌, length, map, replicate, slice_index, slice_set, refl, sym, ap, ◌∙◌, subst, arith}
use Rattle.std.specs.Prelude.{All, Contains, filter, sum_by}
use Rattle.std.specs.List.{list_any}
use Rattle.std.proofs.lemmas.Bool.{cases_Bool, cond-true, cond-false, and_parts, and_from, or_left, or_right, not_from_false, not-true, eqb-true, eqb-false, eq-eqb, false_from_ne_true, false≢true}
use Rattle.std.proofs.lemmas.List.{append-nil, append_assoc, length-set, get_or-set_other, get_or-replicate, length-replicate}
use Rattle.std.proofs.lemmas.List.Elements.{All-cons, All-head, All-tail, Contains-append_left, Contains-push, Contains-push_cases}
use Rattle.std.proofs.lemmas.List.Sums.{sum_by-cons, sum_by-set}
use Rattle.ccr_choice.specs.Problem.{are_distinct}
use Rattle.ccr_choice.proofs.Members.{contains_none, contains_first, contains_later, contains_cases, tests_contains, same_number}
use Rattle.ccr_explain.specs.Cut.{with_job, with_jobs, place_in}
use Rattle.ccr_explain.proofs.Lists.{from_filter}

abbrev pub has : List ℕ → ℕ → Bool
has order j = list_any (λ m. m == j) order

pub has_it : (order : List ℕ) (j : ℕ) → has order j ≡ true → Contains order j
has_it order j h = (tests_contains (λ m. m == j) j order (λ m. same_number j m)).0 h

pub it_has : (order : List ℕ) (j : ℕ) → Contains order j → has order j ≡ true
it_has order j h = (tests_contains (λ m. m == j) j order (λ m. same_number j m)).1 h

-- ---- how many stand before
-- the first is this one, or it stands behind
behind : (m j : ℕ) (order : List ℕ) → Contains (m ∷ order) j → (m == j) ≡ false → Contains order j
behind m j order h differs =
    elim (contains_cases m j order h) [
      | inl same ↦ absurd (eqb-false m j differs same)
      | inr later ↦ later
    ]

pub place_below : (order : List ℕ) (j : ℕ) → Contains order j → place_in order j < length order
place_below [] j h = absurd (contains_none j h)
place_below (m ∷ order) j h =
    elim (cases_Bool (m == j)) [
      | inl holds ↦ (let e = cond-true (m == j) 0 (suc (place_in order j)) holds in omega (arith, e))
      | inr fails ↦ (let e = cond-false (m == j) 0 (suc (place_in order j)) fails in
          let less = place_below order j (behind m j order h fails) in omega (arith, e, less))
    ]

pub place_at : (order : List ℕ) (j : ℕ) → Contains order j → slice_index order (place_in order j) ≡ j
place_at [] j h = absurd (contains_none j h)
place_at (m ∷ order) j h =
    let f : ℕ → ℕ = λ k. slice_index (m ∷ order) k in
    elim (cases_Bool (m == j)) [
      | inl holds ↦ ap f (cond-true (m == j) 0 (suc (place_in order j)) holds) ∙ eqb-true m j holds
      | inr fails ↦ ap f (cond-false (m == j) 0 (suc (place_in order j)) fails) ∙ place_at order j (behind m j order h fails)
    ]

pub place_front : (order more : List ℕ) (j : ℕ) → Contains order j → place_in (order ++ more) j ≡ place_in order j
place_front [] more j h = absurd (contains_none j h)
place_front (m ∷ order) more j h =
    elim (cases_Bool (m == j)) [
      | inl holds ↦ cond-true (m == j) 0 (suc (place_in (order ++ more) j)) holds ∙ sym (cond-true (m == j) 0 (suc (place_in order j)) holds)
      | inr fails ↦ cond-false (m == j) 0 (suc (place_in (order ++ more) j)) fails
          ∙ ap (λ n. suc n) (place_front order more j (behind m j order h fails))
          ∙ sym (cond-false (m == j) 0 (suc (place_in order j)) fails)
    ]

pub place_new : (order more : List ℕ) (j : ℕ) → has order j ≡ false → place_in (order ++ j ∷ more) j ≡ length order
place_new [] more j new = cond-true (j == j) 0 (suc (place_in more j)) (eq-eqb j j refl)
place_new (m ∷ order) more j new =
    elim (cases_Bool (m == j)) [
      | inl holds ↦ absurd (false≢true (sym new ∙ or_left (m == j) (has order j) holds))
      | inr fails ↦ cond-false (m == j) 0 (suc (place_in (order ++ j ∷ more) j)) fails
          ∙ ap (λ n. suc n) (place_new order more j (false_from_ne_true (has order j) (λ h. false≢true (sym new ∙ or_right (m == j) (has order j) h))))
    ]

-- ---- the order grows at its end
pub record Grows (order later : List ℕ) : Type 0 where
  pub added : List ℕ
  pub is : later ≡ order ++ added

pub grows_none : (order : List ℕ) → Grows order order
grows_none order = record { added = []; is = sym (append-nil order) }

pub grows_twice : {a b c : List ℕ} → Grows a b → Grows b c → Grows a c
grows_twice {a = a} g h = record {
  added = g.added ++ h.added;
  is = h.is ∙ ap (λ xs. xs ++ h.added) g.is ∙ append_assoc a g.added h.added;
}

pub grown_has : {a b : List ℕ} (j : ℕ) → Grows a b → Contains a j → Contains b j
grown_has {a = a} j g h =
    let P : List ℕ → Type 0 = λ xs. Contains xs j in
    subst P (sym g.is) (Contains-append_left a g.added j h)

grows_job : (order : List ℕ) (j : ℕ) → Grows order (with_job order j)
grows_job order j =
    elim (cases_Bool (has order j)) [
      | inl holds ↦ record { added = []; is = cond-true (has order j) order (order ++ j ∷ []) holds ∙ sym (append-nil order) }
      | inr fails ↦ record { added = j ∷ []; is = cond-false (has order j) order (order ++ j ∷ []) fails }
    ]

pub grows_jobs : (order js : List ℕ) → Grows order (with_jobs order js)
grows_jobs order [] = grows_none order
grows_jobs order (j ∷ js) = grows_twice (grows_job order j) (grows_jobs (with_job order j) js)

job_there : (order : List ℕ) (j : ℕ) → Contains (with_job order j) j
job_there order j =
    let P : List ℕ → Type 0 = λ xs. Contains xs j in
    elim (cases_Bool (has order j)) [
      | inl holds ↦ subst P (sym (cond-true (has order j) order (order ++ j ∷ []) holds)) (has_it order j holds)
      | inr fails ↦ subst P (sym (cond-false (has order j) order (order ++ j ∷ []) fails)) (Contains-push order j)
    ]

pub jobs_there : (order js : List ℕ) (j : ℕ) → Contains js j → Contains (with_jobs order js) j
jobs_there order [] j h = absurd (contains_none j h)
jobs_there order (m ∷ js) j h =
    elim (contains_cases m j js h) [
      | inl same ↦ (let P : ℕ → Type 0 = λ n. Contains (with_jobs (with_job order m) js) n in
          subst P same (grown_has m (grows_jobs (with_job order m) js) (job_there order m)))
      | inr later ↦ jobs_there (with_job order m) js j later
    ]

-- what holds of the jobs so far and of each new one holds of all
all_job : (P : ℕ → Type 0) (order : List ℕ) (j : ℕ) → All P order → P j → All P (with_job order j)
all_job P order j all one =
    let Q : List ℕ → Type 0 = λ xs. All P xs in
    elim (cases_Bool (has order j)) [
      | inl holds ↦ subst Q (sym (cond-true (has order j) order (order ++ j ∷ []) holds)) all
      | inr fails ↦ subst Q (sym (cond-false (has order j) order (order ++ j ∷ []) fails)) (push P order j all one)
    ]
  where
    push : (P : ℕ → Type 0) (order : List ℕ) (j : ℕ) → All P order → P j → All P (order ++ j ∷ [])
    push P [] j all one = All-cons P j [] one all
    push P (x ∷ order) j all one = All-cons P x (order ++ j ∷ []) (All-head P x order all) (push P order j (All-tail P x order all) one)

pub all_jobs : (P : ℕ → Type 0) (order js : List ℕ) → All P order → All P js → All P (with_jobs order js)
all_jobs P order [] all more = all
all_jobs P order (j ∷ js) all more =
    all_jobs P (with_job order j) js (all_job P order j all (All-head P j js more)) (All-tail P j js more)

-- ---- each once
pub data Distinct : List ℕ → Type 0 where
  none : Distinct []
  more : {x : ℕ} {xs : List ℕ} → (Contains xs x → ⊥) → Distinct xs → Distinct (x ∷ xs)

distinct_push : (xs : List ℕ) (j : ℕ) → Distinct xs → (Contains xs j → ⊥) → Distinct (xs ++ j ∷ [])
distinct_push [] j d new = more new none
distinct_push (x ∷ xs) j (more first rest) new =
    more (λ h. elim (Contains-push_cases xs j x h) [
      | inl among ↦ first among
      | inr same ↦ (let P : ℕ → Type 0 = λ n. Contains (n ∷ xs) j in new (subst P same (contains_first j xs)))
    ]) (distinct_push xs j rest (λ h. new (contains_later x j xs h)))

distinct_job : (order : List ℕ) (j : ℕ) → Distinct order → Distinct (with_job order j)
distinct_job order j d =
    let P : List ℕ → Type 0 = λ xs. Distinct xs in
    elim (cases_Bool (has order j)) [
      | inl holds ↦ subst P (sym (cond-true (has order j) order (order ++ j ∷ []) holds)) d
      | inr fails ↦ subst P (sym (cond-false (has order j) order (order ++ j ∷ []) fails)) (distinct_push order j d (λ h. false≢true (sym fails ∙ it_has order j h)))
    ]

pub distinct_jobs : (order js : List ℕ) → Distinct order → Distinct (with_jobs order js)
distinct_jobs order [] d = d
distinct_jobs order (j ∷ js) d = distinct_jobs (with_job order j) js (distinct_job order j d)

-- ---- what distinct positions of a list add up to, or multiply to
-- another position reads what it read
sums_apart : (xs : List ℕ) (j y : ℕ) (order : List ℕ) → (Contains order j → ⊥) → sum_by (slice_index (slice_set xs j y)) order ≡ sum_by (slice_index xs) order
sums_apart xs j y [] apart = refl
sums_apart xs j y (k ∷ order) apart =
    let differs : k ≢ j = λ e. (let P : ℕ → Type 0 = λ n. Contains (n ∷ order) j in apart (subst P (sym e) (contains_first j order))) in
    let here = get_or-set_other xs j k y 0 differs in
    let rest = sums_apart xs j y order (λ h. apart (contains_later k j order h)) in
    omega (arith, here, rest, sum_by-cons (slice_index (slice_set xs j y)) k order, sum_by-cons (slice_index xs) k order)

sum_within : (xs order : List ℕ) → Distinct order → All (λ j. j < length xs) order → sum_by (slice_index xs) order ≤ sum_by (λ x. x) xs
sum_within xs [] d all = omega arith
sum_within xs (j ∷ order) (more apart d) all =
    let inside : j < length xs = All-head (λ k. k < length xs) j order all in
    let P : ℕ → Type 0 = λ n. All (λ k. k < n) order in
    let rest = sum_within (slice_set xs j 0) order d (subst P (sym (length-set xs j 0)) (All-tail (λ k. k < length xs) j order all)) in
    omega (arith, rest, sums_apart xs j 0 order apart, sum_by-set (λ x. x) xs j 0 0 inside, sum_by-cons (slice_index xs) j order)

sum_ones : (n : ℕ) → sum_by (λ x. x) (replicate n 1) ≡ n
sum_ones zero = refl
sum_ones (suc n) = omega (arith, sum_by-cons (λ x. x) 1 (replicate n 1), sum_ones n)

ones : (n : ℕ) (order : List ℕ) → All (λ j. j < n) order → sum_by (slice_index (replicate n 1)) order ≡ length order
ones n [] all = refl
ones n (j ∷ order) all =
    let one : slice_index (replicate n 1) j ≡ 1 = get_or-replicate {A = ℕ} n j 1 0 (All-head (λ k. k < n) j order all) in
    omega (arith, one, ones n order (All-tail (λ k. k < n) j order all), sum_by-cons (slice_index (replicate n 1)) j order)

-- distinct numbers below n are at most n
pub few_distinct : (n : ℕ) (order : List ℕ) → Distinct order → All (λ j. j < n) order → length order ≤ n
few_distinct n order d all =
    let P : ℕ → Type 0 = λ m. All (λ k. k < m) order in
    omega (arith, sum_within (replicate n 1) order d (subst P (sym (length-replicate n 1)) all), sum_ones n, ones n order all)

-- ---- distinct numbers stay so
distinct_filter : (test : ℕ → Bool) (xs : List ℕ) → are_distinct xs ≡ true → are_distinct (filter test xs) ≡ true
distinct_filter test [] h = refl
distinct_filter test (x ∷ xs) h =
    let parts = and_parts (not (has xs x)) (are_distinct xs) h in
    let rest = distinct_filter test xs parts.1 in
    let P : List ℕ → Type 0 = λ zs. are_distinct zs ≡ true in
    elim (cases_Bool (test x)) [
      | inl holds ↦ subst P (sym (cond-true (test x) (x ∷ filter test xs) (filter test xs) holds))
          (and_from (not (has (filter test xs) x)) (are_distinct (filter test xs))
          (not_from_false (has (filter test xs) x) (false_from_ne_true (has (filter test xs) x) (λ e. false≢true (sym (not-true (has xs x) parts.0)
          ∙ it_has xs x (from_filter test x xs (has_it (filter test xs) x e)).0))))
          rest)
      | inr fails ↦ subst P (sym (cond-false (test x) (x ∷ filter test xs) (filter test xs) fails)) rest
    ]

-- and so do the places of different jobs of an order
pub distinct_left : (test : ℕ → Bool) (order xs : List ℕ) → All (Contains order) (filter test xs) → are_distinct xs ≡ true → are_distinct (map (place_in order) (filter test xs)) ≡ true
distinct_left test order xs all h = places (filter test xs) all (distinct_filter test xs h)
  where
    -- a place that two jobs have is that of one
    same_place : (j : ℕ) (js : List ℕ) → Contains order j → All (Contains order) js → Contains (map (place_in order) js) (place_in order j) → Contains js j
    same_place j [] there all h = absurd (contains_none (place_in order j) h)
    same_place j (m ∷ js) there all h =
        elim (contains_cases (place_in order m) (place_in order j) (map (place_in order) js) h) [
          | inl e ↦ (let one : m ≡ j = sym (place_at order m (All-head (Contains order) m js all)) ∙ ap (slice_index order) e ∙ place_at order j there in
              let P : ℕ → Type 0 = λ n. Contains (n ∷ js) j in subst P (sym one) (contains_first j js))
          | inr later ↦ contains_later m j js (same_place j js there (All-tail (Contains order) m js all) later)
        ]

    places : (js : List ℕ) → All (Contains order) js → are_distinct js ≡ true → are_distinct (map (place_in order) js) ≡ true
    places [] all h = refl
    places (j ∷ js) all h =
        let parts = and_parts (not (has js j)) (are_distinct js) h in
        let there = All-head (Contains order) j js all in
        let among = map (place_in order) js in
        and_from (not (has among (place_in order j))) (are_distinct among)
        (not_from_false (has among (place_in order j)) (false_from_ne_true (has among (place_in order j)) (λ e. false≢true (sym (not-true (has js j) parts.0)
        ∙ it_has js j (same_place j js there (All-tail (Contains order) j js all) (has_it among (place_in order j) e))))))
        (places js (All-tail (Contains order) j js all) parts.1)
