-- Elements of lists, by cases on the list, and as tests.
use Rattle.std.proofs.Common.{◌≡◌, ◌↔◌, ℕ, zero, suc, List, [], ◌∷◌, slice_index, Bool, true, ◌&&◌, ◌==◌, ◌⊎◌, inl, inr, refl, sym, ap, ◌∙◌, subst, arith}
use Rattle.std.specs.Prelude.{Contains, Any, EachIndex}
use Rattle.std.specs.List.{list_any, list_all}
use Rattle.std.proofs.lemmas.Bool.{and_parts, and_from, or_cases, or_left, or_right, eqb-true, eq-eqb}

pub contains_none : {X : Type 0} (x : X) → Contains [] x → ⊥
contains_none x (k, within, at) = omega arith

pub contains_first : {X : Type 0} (x : X) (xs : List X) → Contains (x ∷ xs) x
contains_first x xs = (0, omega arith, refl)

pub contains_later : {X : Type 0} (y x : X) (xs : List X) → Contains xs x → Contains (y ∷ xs) x
contains_later y x xs (k, within, at) = (suc k, omega arith, at)

pub contains_cases : {X : Type 0} (y x : X) (xs : List X) → Contains (y ∷ xs) x → (y ≡ x) ⊎ Contains xs x
contains_cases y x xs (zero, within, at) = inl at
contains_cases y x xs (suc k, within, at) = inr (k, omega arith, at)

pub any_none : {X : Type 0} (P : X → Type 0) → Any P [] → ⊥
any_none P (k, x, within, at, holds) = omega arith

pub any_first : {X : Type 0} (P : X → Type 0) (x : X) (xs : List X) → P x → Any P (x ∷ xs)
any_first P x xs holds = (0, x, omega arith, refl, holds)

pub any_later : {X : Type 0} (P : X → Type 0) (x : X) (xs : List X) → Any P xs → Any P (x ∷ xs)
any_later P x xs (k, y, within, at, holds) = (suc k, y, omega arith, at, holds)

pub any_cases : {X : Type 0} (P : X → Type 0) (x : X) (xs : List X) → Any P (x ∷ xs) → P x ⊎ Any P xs
any_cases P x xs (zero, y, within, at, holds) = inl (subst P (sym at) holds)
any_cases P x xs (suc k, y, within, at, holds) = inr (k, y, omega arith, at, holds)

pub any_of : {X : Type 0} (P : X → Type 0) (x : X) (xs : List X) → Contains xs x → P x → Any P xs
any_of P x xs (k, within, at) holds = (k, x, within, at, holds)

pub any_more : {X : Type 0} (P Q : X → Type 0) (xs : List X) → ((x : X) → P x → Q x) → Any P xs → Any Q xs
any_more P Q xs more (k, x, within, at, holds) = (k, x, within, at, more x holds)

-- ---- as tests
pub tests_any : {X : Type 0} (test : X → Bool) (P : X → Type 0) (xs : List X) → ((x : X) → (test x ≡ true) ↔ P x) → (list_any test xs ≡ true) ↔ Any P xs
tests_any {X} test P xs each = (λ h. there xs h, λ h. back xs h)
  where
    there : (xs : List X) → list_any test xs ≡ true → Any P xs
    there [] h = absurd (cc (h))
    there (x ∷ xs) h =
        elim (or_cases (test x) (list_any test xs) h) [
          | inl e ↦ any_first P x xs ((each x).0 e)
          | inr e ↦ any_later P x xs (there xs e)
        ]

    back : (xs : List X) → Any P xs → list_any test xs ≡ true
    back [] h = absurd (any_none P h)
    back (x ∷ xs) h =
        elim (any_cases P x xs h) [
          | inl e ↦ or_left (test x) (list_any test xs) ((each x).1 e)
          | inr e ↦ or_right (test x) (list_any test xs) (back xs e)
        ]

contains_any : {X : Type 0} (x : X) (xs : List X) → Contains xs x ↔ Any (λ y. y ≡ x) xs
contains_any {X} x xs = (λ h. any_of (λ y. y ≡ x) x xs h refl, λ h. back xs h)
  where
    back : (xs : List X) → Any (λ y. y ≡ x) xs → Contains xs x
    back [] h = absurd (any_none (λ y. y ≡ x) h)
    back (y ∷ xs) h =
        elim (any_cases (λ y. y ≡ x) y xs h) [
          | inl e ↦ (let P : X → Type 0 = λ z. Contains (z ∷ xs) x in subst P (sym e) (contains_first x xs))
          | inr e ↦ contains_later y x xs (back xs e)
        ]

pub tests_contains : {X : Type 0} (test : X → Bool) (x : X) (xs : List X) → ((y : X) → (test y ≡ true) ↔ (y ≡ x)) → (list_any test xs ≡ true) ↔ Contains xs x
tests_contains test x xs each =
    let any = tests_any test (λ y. y ≡ x) xs each in
    let same = contains_any x xs in
    (λ h. same.1 (any.0 h), λ h. any.1 (same.0 h))

pub tests_each : (test : ℕ → Bool) (ns : List ℕ) → (list_all test ns ≡ true) ↔ EachIndex ns (λ k. test (slice_index ns k) ≡ true)
tests_each test ns = (λ h. there ns h, λ h. back ns h)
  where
    there : (ns : List ℕ) → list_all test ns ≡ true → EachIndex ns (λ k. test (slice_index ns k) ≡ true)
    there [] h k within = absurd (omega arith)
    there (n ∷ ns) h zero within = (and_parts (test n) (list_all test ns) h).0
    there (n ∷ ns) h (suc k) within = there ns (and_parts (test n) (list_all test ns) h).1 k (omega arith)

    back : (ns : List ℕ) → EachIndex ns (λ k. test (slice_index ns k) ≡ true) → list_all test ns ≡ true
    back [] h = refl
    back (n ∷ ns) h = and_from (test n) (list_all test ns) (h 0 (omega arith)) (back ns (λ k within. h (suc k) (omega arith)))

pub same_number : (n m : ℕ) → ((m == n) ≡ true) ↔ (m ≡ n)
same_number n m = (λ h. eqb-true m n h, λ h. eq-eqb m n h)

pub same_pair : (pair q : ℕ × ℕ) → ((q.0 == pair.0 && q.1 == pair.1) ≡ true) ↔ (q ≡ pair)
same_pair pair q = (
  λ h. let parts = and_parts (q.0 == pair.0) (q.1 == pair.1) h in
      let first : q.0 ≡ pair.0 = eqb-true _ _ parts.0 in
      let second : q.1 ≡ pair.1 = eqb-true _ _ parts.1 in
      ap (λ x. (x, q.1)) first ∙ ap (λ y. (pair.0, y)) second,
  λ h. and_from (q.0 == pair.0) (q.1 == pair.1) (eq-eqb q.0 pair.0 (ap (λ r. r.0) h)) (eq-eqb q.1 pair.1 (ap (λ r. r.1) h)),
)
