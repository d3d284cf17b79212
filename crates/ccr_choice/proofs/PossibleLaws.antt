-- The tests of possible places say what they should, and the best possible place is the best.
use Rattle.std.proofs.Common.{◌≡◌, ◌↔◌, ℕ, zero, suc, ◌+◌, ◌<◌, List, [], ◌∷◌, length, slice_index, Bool, true, ◌&&◌, ◌==◌, inl, inr, refl, sym, ap, ◌∙◌, subst, arith, Option, Some, None, filter}
use Rattle.std.specs.Prelude.{Contains, Any, MatchOption, unwrap_or}
use Rattle.std.proofs.lemmas.Bool.{and_parts, and_from, cases_Bool, cond-true, cond-false, cases_eq, false≢true}
use Rattle.ccr_choice.specs.Problem.{ProblemValue, BuildValue, InputValue, input_at, builds_at}
use Rattle.ccr_choice.specs.Preference.{Preference, IsOrder, IsBetter, IsMostPreferred}
use Rattle.ccr_choice.specs.Assignment.{Assignment}
use Rattle.ccr_choice.specs.Possible.{CanHavePassed, IsPossible, IsBestPossible, IsBestPlace, AreBestPlaces, AreBoundedBy}
use Rattle.ccr_choice.proofs.BestPlaces.{has_pair, passes, is_possible, preferred_of, most_preferred, best_possible, best_place, best_places_from, best_places}
use Rattle.ccr_choice.proofs.Members.{contains_none, contains_first, contains_later, contains_cases, tests_any, tests_contains, tests_each, same_number, same_pair}

-- ---- possible places
pub tests_pair : (pair : ℕ × ℕ) (pairs : List (ℕ × ℕ)) → (has_pair pair pairs ≡ true) ↔ Contains pairs pair
tests_pair pair pairs = tests_contains (λ q. q.0 == pair.0 && q.1 == pair.1) pair pairs (same_pair pair)

tests_passed : (builds : List BuildValue) (pair : ℕ × ℕ) (o : Option BuildValue)
    → (passes builds pair o ≡ true) ↔ MatchOption o (Any (λ b. Contains b.pairs pair) builds) (λ b. Contains b.pairs pair)
tests_passed builds pair None = tests_any (λ b. has_pair pair b.pairs) (λ b. Contains b.pairs pair) builds (λ b. tests_pair pair b.pairs)
tests_passed builds pair (Some b) = tests_pair pair b.pairs

pub tests_possible : (p : ProblemValue) (a : Assignment) (i place : ℕ) → (is_possible p a i place ≡ true) ↔ IsPossible p a i place
tests_possible p a i place =
    let pair : ℕ × ℕ = ((input_at p i).scope, place) in
    let jobs = (input_at p i).jobs in
    let allowed = tests_contains (λ v. v == place) place (input_at p i).places (same_number place) in
    let each = tests_each (λ j. passes (builds_at p j) pair (a j)) jobs in
    let one : (k : ℕ) → (passes (builds_at p (slice_index jobs k)) pair (a (slice_index jobs k)) ≡ true) ↔ CanHavePassed p a pair (slice_index jobs k)
    = λ k. tests_passed (builds_at p (slice_index jobs k)) pair (a (slice_index jobs k)) in (
      λ h. let parts = and_parts _ _ h in
          record { allowed = allowed.0 parts.0; passed = λ k within. (one k).0 (each.0 parts.1 k within) },
      λ h. and_from _ _ (allowed.1 h.allowed) (each.1 (λ k within. (one k).1 (h.passed k within))),
    )

-- ---- the most preferred of some places
module _ (prefers : Preference) (order : IsOrder prefers) (i : ℕ) where
  none_preferred : (xs : List ℕ) → most_preferred (prefers i) xs ≡ None → xs ≡ []
  none_preferred [] h = refl
  none_preferred (x ∷ xs) h = absurd (some_of (most_preferred (prefers i) xs) h)
    where
      some_of : (o : Option ℕ) → preferred_of (prefers i) x o ≡ None → ⊥
      some_of None h = cc
      some_of (Some y) h =
          elim (cases_Bool (prefers i y x)) [
            | inl e ↦ absurd (cc (h, cond-true (prefers i y x) (Some y) (Some x) e))
            | inr e ↦ absurd (cc (h, cond-false (prefers i y x) (Some y) (Some x) e))
          ]

  preferred_step : (x : ℕ) (xs : List ℕ) (o : Option ℕ) (v : ℕ) → (o ≡ None → xs ≡ []) → ((w : ℕ) → o ≡ Some w → IsMostPreferred (prefers i) xs w)
      → preferred_of (prefers i) x o ≡ Some v → IsMostPreferred (prefers i) (x ∷ xs) v
  preferred_step x xs None v none some h =
      let same : x ≡ v = cc (h) in
      let P : ℕ → Type 0 = λ n. IsMostPreferred (prefers i) (x ∷ xs) n in
      let Q : List ℕ → Type 0 = λ ys. Contains ys x → ⊥ in
      subst P same (record {
        among = contains_first x xs;
        none_before = λ y among better. elim (contains_cases x y xs among) [
          | inl e ↦ absurd (false≢true (sym (order.irreflexive i x) ∙ ap (λ n. prefers i n x) e ∙ better))
          | inr e ↦ absurd (contains_none y (let R : List ℕ → Type 0 = λ ys. Contains ys y in subst R (none refl) e))
        ];
      })
  preferred_step x xs (Some w) v none some h =
      let rest = some w refl in
      let P : ℕ → Type 0 = λ n. IsMostPreferred (prefers i) (x ∷ xs) n in
      elim (cases_Bool (prefers i w x)) [
        | inl wins ↦ let same : w ≡ v = cc (h, cond-true (prefers i w x) (Some w) (Some x) wins) in
            subst P same (record {
              among = contains_later x w xs rest.among;
              none_before = λ y among better. elim (contains_cases x y xs among) [
                | inl e ↦ absurd (false≢true (sym (order.irreflexive i x) ∙ order.transitive i x w x (ap (λ n. prefers i n w) e ∙ better) wins))
                | inr e ↦ rest.none_before y e better
              ];
            })
        | inr loses ↦ let same : x ≡ v = cc (h, cond-false (prefers i w x) (Some w) (Some x) loses) in
            subst P same (record {
              among = contains_first x xs;
              none_before = λ y among better. elim (contains_cases x y xs among) [
                | inl e ↦ absurd (false≢true (sym (order.irreflexive i x) ∙ ap (λ n. prefers i n x) e ∙ better))
                | inr e ↦ elim (cases_eq y w) [
                  | inl same ↦ absurd (false≢true (sym loses ∙ ap (λ n. prefers i n x) (sym same) ∙ better))
                  | inr differs ↦ elim (order.total i y w differs) [
                    | inl k ↦ rest.none_before y e k
                    | inr k ↦ absurd (false≢true (sym loses ∙ order.transitive i w y x k better))
                  ]
                ]
              ];
            })
      ]

  pub most_preferred_is : (xs : List ℕ) (v : ℕ) → most_preferred (prefers i) xs ≡ Some v → IsMostPreferred (prefers i) xs v
  most_preferred_is [] v h = absurd (cc (h))
  most_preferred_is (x ∷ xs) v h = preferred_step x xs (most_preferred (prefers i) xs) v (none_preferred xs) (λ w e. most_preferred_is xs w e) h

contains_filter : (test : ℕ → Bool) (xs : List ℕ) (x : ℕ) → Contains (filter test xs) x → Contains xs x × (test x ≡ true)
contains_filter test [] x h = absurd (contains_none x h)
contains_filter test (y ∷ xs) x h =
    elim (cases_Bool (test y)) [
      | inl e ↦ let kept : Contains (y ∷ filter test xs) x = (let P : List ℕ → Type 0 = λ zs. Contains zs x in subst P (cond-true (test y) (y ∷ filter test xs) (filter test xs) e) h) in
          elim (contains_cases y x (filter test xs) kept) [
            | inl same ↦ let P : ℕ → Type 0 = λ n. Contains (y ∷ xs) n in (subst P same (contains_first y xs), ap test (sym same) ∙ e)
            | inr more ↦ let rest = contains_filter test xs x more in (contains_later y x xs rest.0, rest.1)
          ]
      | inr e ↦ let kept : Contains (filter test xs) x = (let P : List ℕ → Type 0 = λ zs. Contains zs x in subst P (cond-false (test y) (y ∷ filter test xs) (filter test xs) e) h) in
          let rest = contains_filter test xs x kept in (contains_later y x xs rest.0, rest.1)
    ]

filter_contains : (test : ℕ → Bool) (xs : List ℕ) (x : ℕ) → Contains xs x → test x ≡ true → Contains (filter test xs) x
filter_contains test [] x h t = absurd (contains_none x h)
filter_contains test (y ∷ xs) x h t =
    let P : List ℕ → Type 0 = λ zs. Contains zs x in
    elim (contains_cases y x xs h) [
      | inl same ↦ let Q : ℕ → Type 0 = λ n. Contains (y ∷ filter test xs) n in
          subst P (sym (cond-true (test y) (y ∷ filter test xs) (filter test xs) (ap test same ∙ t))) (subst Q same (contains_first y (filter test xs)))
      | inr more ↦ let rest = filter_contains test xs x more t in
          elim (cases_Bool (test y)) [
            | inl e ↦ subst P (sym (cond-true (test y) (y ∷ filter test xs) (filter test xs) e)) (contains_later y x (filter test xs) rest)
            | inr e ↦ subst P (sym (cond-false (test y) (y ∷ filter test xs) (filter test xs) e)) rest
          ]
    ]

-- ---- the best possible place
possible_kept : (p : ProblemValue) (a : Assignment) (i place : ℕ) → IsPossible p a i place → Contains (filter (is_possible p a i) (input_at p i).places) place
possible_kept p a i place h = filter_contains (is_possible p a i) (input_at p i).places place h.allowed ((tests_possible p a i place).1 h)

best_from : (prefers : Preference) → IsOrder prefers → (p : ProblemValue) (a : Assignment) (i : ℕ) (o : Option ℕ) → most_preferred (prefers i) (filter (is_possible p a i) (input_at p i).places) ≡ o → IsBestPossible prefers p a i o
best_from prefers order p a i None e = λ place h.
    let P : List ℕ → Type 0 = λ xs. Contains xs place in
    contains_none place (subst P (none_preferred prefers order i _ e) (possible_kept p a i place h))
best_from prefers order p a i (Some x) e =
    let most = most_preferred_is prefers order i _ x e in
    ((tests_possible p a i x).0 (contains_filter (is_possible p a i) (input_at p i).places x most.among).1, λ place h better. most.none_before place (possible_kept p a i place h) better)

pub best_is : (prefers : Preference) → IsOrder prefers → (p : ProblemValue) (a : Assignment) (i : ℕ) → IsBestPossible prefers p a i (best_possible prefers p a i)
best_is prefers order p a i = best_from prefers order p a i _ refl

-- there is only one
pub best_only : (prefers : Preference) → IsOrder prefers → (p : ProblemValue) (a : Assignment) (i : ℕ) (o : Option ℕ) → IsBestPossible prefers p a i o → o ≡ best_possible prefers p a i
best_only prefers order p a i o h = alike o (best_possible prefers p a i) h (best_is prefers order p a i)
  where
    alike : (o best : Option ℕ) → IsBestPossible prefers p a i o → IsBestPossible prefers p a i best → o ≡ best
    alike None None h k = refl
    alike None (Some y) h k = absurd (h y k.0)
    alike (Some x) None h k = absurd (k x h.0)
    alike (Some x) (Some y) h k =
        elim (cases_eq x y) [
          | inl e ↦ ap Some e
          | inr e ↦ elim (order.total i x y e) [
            | inl better ↦ absurd (k.1 x h.0 better)
            | inr better ↦ absurd (h.1 y k.0 better)
          ]
        ]

-- ---- the list of best places
length_best : (prefers : Preference) (p : ProblemValue) (a : Assignment) (i : ℕ) (xs : List InputValue) → length (best_places_from prefers p a i xs) ≡ length xs
length_best prefers p a i [] = refl
length_best prefers p a i (x ∷ xs) = ap suc (length_best prefers p a (i + 1) xs)

best_at : (prefers : Preference) (p : ProblemValue) (a : Assignment) (i : ℕ) (xs : List InputValue) (k : ℕ) → k < length xs → slice_index (best_places_from prefers p a i xs) k ≡ best_place prefers p a (i + k)
best_at prefers p a i [] k within = absurd (omega arith)
best_at prefers p a i (x ∷ xs) zero within = let e : i ≡ i + 0 = omega arith in ap (best_place prefers p a) e
best_at prefers p a i (x ∷ xs) (suc k) within = let e : i + 1 + k ≡ i + suc k = omega arith in best_at prefers p a (i + 1) xs k (omega arith) ∙ ap (best_place prefers p a) e

pub length-best_places : (prefers : Preference) (p : ProblemValue) (a : Assignment) → length (best_places prefers p a) ≡ length p.inputs
length-best_places prefers p a = length_best prefers p a 0 p.inputs

pub best_places_at : (prefers : Preference) (p : ProblemValue) (a : Assignment) (k : ℕ) → k < length p.inputs → slice_index (best_places prefers p a) k ≡ best_place prefers p a k
best_places_at prefers p a k within = let e : 0 + k ≡ k = omega arith in best_at prefers p a 0 p.inputs k within ∙ ap (best_place prefers p a) e

-- ---- as a relation: there are best places, and these are the only ones
pub best_place_is : (prefers : Preference) → IsOrder prefers → (p : ProblemValue) (a : Assignment) (i place : ℕ)
    → IsBestPlace prefers p a i place → place ≡ best_place prefers p a i
best_place_is prefers order p a i place (best, is, at) = at ∙ ap (λ o. unwrap_or o 0) (best_only prefers order p a i best is)

pub are_best : (prefers : Preference) → IsOrder prefers → (p : ProblemValue) (a : Assignment) → AreBestPlaces prefers p a (best_places prefers p a)
are_best prefers order p a = record {
  place_each = length-best_places prefers p a;
  best = λ i within. (best_possible prefers p a i, best_is prefers order p a i, best_places_at prefers p a i within);
}

-- lists of one length that are the same at each index are one
pub same_at : (xs ys : List ℕ) → length xs ≡ length ys → ((i : ℕ) → i < length xs → slice_index xs i ≡ slice_index ys i) → xs ≡ ys
same_at [] [] e each = refl
same_at [] (y ∷ ys) e each = absurd (omega arith)
same_at (x ∷ xs) [] e each = absurd (omega arith)
same_at (x ∷ xs) (y ∷ ys) e each =
    ap (λ z. z ∷ xs) (each 0 (omega arith)) ∙ ap (λ zs. y ∷ zs) (same_at xs ys (omega arith) (λ i within. each (suc i) (omega arith)))

pub are_only : (prefers : Preference) → IsOrder prefers → (p : ProblemValue) (a : Assignment) (places : List ℕ)
    → AreBestPlaces prefers p a places → places ≡ best_places prefers p a
are_only prefers order p a places are =
    let many = length-best_places prefers p a in
    same_at places (best_places prefers p a) (are.place_each ∙ sym many) (λ i within.
    let inside : i < length p.inputs = omega (arith, within, are.place_each) in
    best_place_is prefers order p a i (slice_index places i) (are.best i inside) ∙ sym (best_places_at prefers p a i inside))

pub bounded_by : (prefers : Preference) → IsOrder prefers → (p : ProblemValue) (a : Assignment) (bound : List ℕ)
    → (¬ IsBetter prefers (best_places prefers p a) bound) ↔ AreBoundedBy prefers p a bound
bounded_by prefers order p a bound = (
  λ h places are better. h (let P : List ℕ → Type 0 = λ xs. IsBetter prefers xs bound in subst P (are_only prefers order p a places are) better),
  λ h. h (best_places prefers p a) (are_best prefers order p a),
)
