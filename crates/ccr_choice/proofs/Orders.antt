-- The order of each problem is an order, and 0 comes last in it; where no place is kept, better is later.
use Rattle.std.proofs.Common.{◌≡◌, ◌≢◌, ◌↔◌, ℕ, zero, suc, ◌<◌, ◌⊎◌, inl, inr, List, [], ◌∷◌, length, slice_index, Option, Some, None, Bool, true, false, not, IsTrue, sym, ap, ◌∙◌, refl, arith}
use Rattle.std.proofs.lemmas.Bool.{ltb-true, lt-ltb, le-ltb, cases_lt, cases_eq, cases_Bool, false≢true}
use Rattle.std.proofs.lemmas.Bool.Decides.{nat_tests}
use Rattle.ccr_choice.specs.Problem.{ProblemValue, input_at}
use Rattle.ccr_choice.specs.Later.{IsLater}
use Rattle.ccr_choice.specs.Possible.{Reaches}
use Rattle.ccr_choice.specs.Preference.{prefers_after, order_of, IsOrder, IsBetter}

-- ---- the places of one input
no_self : (after : Option ℕ) (x : ℕ) → prefers_after after x x ≡ false
no_self None x = le-ltb x x (omega arith)
no_self (Some u) x = grind (arith, nat_tests)

chain : (after : Option ℕ) (x y z : ℕ) → prefers_after after x y ≡ true → prefers_after after y z ≡ true → prefers_after after x z ≡ true
chain None x y z h k = let a = ltb-true y x h in let b = ltb-true z y k in lt-ltb z x (omega arith)
chain (Some u) x y z h k = grind (arith, nat_tests)

one_of : (after : Option ℕ) (x y : ℕ) → x ≢ y → (prefers_after after x y ≡ true) ⊎ (prefers_after after y x ≡ true)
one_of after x y differs =
    elim (cases_Bool (prefers_after after x y)) [
      | inl e ↦ inl e
      | inr e ↦ inr (other after e)
    ]
  where
    other : (after : Option ℕ) → prefers_after after x y ≡ false → prefers_after after y x ≡ true
    other None e = grind (arith, nat_tests)
    other (Some u) e = grind (arith, nat_tests)

-- each place is preferred to 0
pub before_zero : (after : Option ℕ) (x : ℕ) → 0 < x → prefers_after after x 0 ≡ true
before_zero None x some = lt-ltb 0 x some
before_zero (Some u) x some = grind (arith, nat_tests)

-- the order of each problem
pub is_order : (p : ProblemValue) → IsOrder (order_of p)
is_order p = record {
  irreflexive = λ i x. no_self (input_at p i).after x;
  transitive = λ i x y z h k. chain (input_at p i).after x y z h k;
  total = λ i x y differs. one_of (input_at p i).after x y differs;
}

-- ---- what is reached
module _ (prefers : ℕ → ℕ → ℕ → Bool) (order : IsOrder prefers) (i : ℕ) where
  -- no place is preferred to one to which none of the preferred ones is
  pub behind : (x y z : ℕ) → ¬ IsTrue (prefers i x y) → ¬ IsTrue (prefers i y z) → ¬ IsTrue (prefers i x z)
  behind x y z h k better =
      elim (cases_eq x y) [
        | inl same ↦ k (ap (λ n. prefers i n z) (sym same) ∙ better)
        | inr differs ↦ elim (order.total i x y differs) [
          | inl first ↦ h first
          | inr first ↦ k (order.transitive i y x z first better)
        ]
      ]

  -- what is reached by the best so far is reached by one that is preferred to it
  pub reach_on : (o : Option ℕ) (x place : ℕ) → Reaches (prefers i) o x → ¬ IsTrue (prefers i place x) → Reaches (prefers i) o place
  reach_on None x place h less = h
  reach_on (Some y) x place h less = behind place x y less h

-- ---- lists of places
module _ (prefers : ℕ → ℕ → ℕ → Bool) (order : IsOrder prefers) (xs ys : List ℕ) where
  -- lists that are the same as far as both go
  pub same_bounded : (n : ℕ) → ((k : ℕ) → k < n → slice_index xs k ≡ slice_index ys k) → ((k : ℕ) → k < length xs → k < length ys → k < n) → ¬ IsBetter prefers xs ys
  same_bounded n same all h =
      let e = same h.first (all h.first h.within h.reached) in
      false≢true (sym (order.irreflexive h.first (slice_index ys h.first)) ∙ ap (λ x. prefers h.first x (slice_index ys h.first)) (sym e) ∙ h.preferred)

  -- the first place that differs decides
  pub first_decides : (n : ℕ) → ((k : ℕ) → k < n → slice_index xs k ≡ slice_index ys k) → n < length xs → n < length ys → slice_index xs n ≢ slice_index ys n
      → IsTrue (prefers n (slice_index xs n) (slice_index ys n)) ↔ IsBetter prefers xs ys
  first_decides n same within reached differs = (
    λ h. record { first = n; within = within; reached = reached; same_before = same; preferred = h },
    λ h. elim (cases_lt h.first n) [
      | inl before ↦ absurd (false≢true (sym (order.irreflexive h.first (slice_index ys h.first)) ∙ ap (λ x. prefers h.first x (slice_index ys h.first)) (sym (same h.first before)) ∙ h.preferred))
      | inr after ↦ elim (cases_lt n h.first) [
        | inl beyond ↦ absurd (differs (h.same_before n beyond))
        | inr not_beyond ↦ (let now : h.first ≡ n = omega arith in ap (λ k. prefers k (slice_index xs k) (slice_index ys k)) (sym now) ∙ h.preferred)
      ]
    ],
  )

-- what isn't better, by a test of what is
pub worse_unless : {B : Type 0} (b : Bool) → IsTrue b ↔ B → IsTrue (not b) ↔ (¬ B)
worse_unless true tests = (λ h. absurd (cc (h)), λ none. absurd (none (tests.0 refl)))
worse_unless false tests = (λ h found. absurd (cc (tests.1 found)), λ none. refl)

-- ---- where no place is kept
better_later : (p : ProblemValue) → ((i : ℕ) → (input_at p i).after ≡ None) → (xs ys : List ℕ) → IsBetter (order_of p) xs ys → IsLater xs ys
better_later p plain xs ys h = at xs ys h.first h.within h.reached h.same_before
    (ltb-true _ _ (ap (λ o. prefers_after o (slice_index xs h.first) (slice_index ys h.first)) (sym (plain h.first)) ∙ h.preferred))
  where
    at : (xs ys : List ℕ) (k : ℕ) → k < length xs → k < length ys → ((m : ℕ) → m < k → slice_index xs m ≡ slice_index ys m) → slice_index ys k < slice_index xs k → IsLater xs ys
    at [] ys k within reached same less = absurd (omega arith)
    at (x ∷ xs) [] k within reached same less = absurd (omega arith)
    at (x ∷ xs) (y ∷ ys) zero within reached same less = inl less
    at (x ∷ xs) (y ∷ ys) (suc k) within reached same less = inr (same 0 (omega arith), at xs ys k (omega arith) (omega arith) (λ m below. same (suc m) (omega arith)) less)

record Differs (xs ys : List ℕ) : Type 0 where
  first : ℕ
  within : first < length xs
  reached : first < length ys
  same_before : (k : ℕ) → k < first → slice_index xs k ≡ slice_index ys k
  greater : slice_index ys first < slice_index xs first

later_differs : (xs ys : List ℕ) → IsLater xs ys → Differs xs ys
later_differs [] ys h = absurd h
later_differs (x ∷ xs) [] h = absurd h
later_differs (x ∷ xs) (y ∷ ys) h =
    elim h [
      | inl less ↦ record { first = 0; within = omega arith; reached = omega arith; same_before = λ k below. absurd (omega arith); greater = less }
      | inr same ↦ (let rest = later_differs xs ys same.1 in record {
        first = suc rest.first;
        within = omega (arith, rest.within);
        reached = omega (arith, rest.reached);
        same_before = λ k below. before k same.0 rest.first rest.same_before below;
        greater = rest.greater;
      })
    ]
  where
    before : (k : ℕ) → x ≡ y → (n : ℕ) → ((m : ℕ) → m < n → slice_index xs m ≡ slice_index ys m) → k < suc n → slice_index (x ∷ xs) k ≡ slice_index (y ∷ ys) k
    before zero same n rest below = same
    before (suc k) same n rest below = rest k (omega arith)

later_better : (p : ProblemValue) → ((i : ℕ) → (input_at p i).after ≡ None) → (xs ys : List ℕ) → IsLater xs ys → IsBetter (order_of p) xs ys
later_better p plain xs ys h =
    let d = later_differs xs ys h in
    record {
      first = d.first;
      within = d.within;
      reached = d.reached;
      same_before = d.same_before;
      preferred = ap (λ o. prefers_after o (slice_index xs d.first) (slice_index ys d.first)) (plain d.first) ∙ lt-ltb _ _ d.greater;
    }

-- better is later
pub better_is_later : (p : ProblemValue) → ((i : ℕ) → (input_at p i).after ≡ None) → (xs ys : List ℕ) → IsBetter (order_of p) xs ys ↔ IsLater xs ys
better_is_later p plain xs ys = (λ h. better_later p plain xs ys h, λ h. later_better p plain xs ys h)
