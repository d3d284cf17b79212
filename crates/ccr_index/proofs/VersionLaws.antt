-- What is possible where nothing is fixed, once an input has one more allowed place, the last.
use Rattle.std.proofs.Common.{◌≡◌, ℕ, ◌<◌, ◌⊎◌, [], ◌∷◌, length, slice_index, true, inl, inr, refl, sym, ap, ◌∙◌, subst, Option, Some, None}
use Rattle.std.specs.Prelude.{Contains, EachIndex, unwrap_or}
use Rattle.std.proofs.lemmas.Bool.{false≢true}
use Rattle.std.proofs.lemmas.List.Elements.{Contains-append_left, Contains-append_right, Contains-append_cases}
use Rattle.ccr_choice.specs.Problem.{ProblemValue, InputValue, input_at}
use Rattle.ccr_choice.specs.Preference.{order_of, prefers_after}
use Rattle.ccr_choice.specs.Assignment.{nothing_fixed}
use Rattle.ccr_choice.specs.Possible.{CanHavePassed, IsPossible, IsBestPossible, IsBestPlace}
use Rattle.ccr_choice.proofs.Members.{contains_none, contains_first, contains_cases}
use Rattle.ccr_choice.proofs.Orders.{is_order, before_zero}
use Rattle.ccr_index.specs.Index.{HasPassed, with_version}
use Rattle.ccr_index.specs.Rows.{with_place}
use Rattle.ccr_index.proofs.InputLaws as input

module _ (p : ProblemValue) (i place : ℕ) (inside : i < length p.inputs) where
  here : input_at (with_version p i place) i ≡ with_place (input_at p i) place
  here = input.here p i (with_place (input_at p i) place) inside

  -- its order is the same
  same_order : (x y : ℕ) → order_of (with_version p i place) i x y ≡ order_of p i x y
  same_order x y = ap (λ (z : InputValue). prefers_after z.after x y) here

  kept : (q : ℕ) → IsPossible p nothing_fixed i q → IsPossible (with_version p i place) nothing_fixed i q
  kept q h =
      let P : InputValue → Type 0 = λ x. Contains x.places q in
      let R : InputValue → Type 0 = λ x. EachIndex x.jobs (λ k. CanHavePassed p nothing_fixed (x.scope, q) (slice_index x.jobs k)) in
      record { allowed = subst P (sym here) (Contains-append_left (input_at p i).places (place ∷ []) q h.allowed); passed = subst R (sym here) h.passed }

  made : HasPassed p nothing_fixed i place → IsPossible (with_version p i place) nothing_fixed i place
  made h =
      let P : InputValue → Type 0 = λ x. Contains x.places place in
      let R : InputValue → Type 0 = λ x. EachIndex x.jobs (λ k. CanHavePassed p nothing_fixed (x.scope, place) (slice_index x.jobs k)) in
      record { allowed = subst P (sym here) (Contains-append_right (input_at p i).places (place ∷ []) place (contains_first place [])); passed = subst R (sym here) h }

  parts : (q : ℕ) → IsPossible (with_version p i place) nothing_fixed i q → IsPossible p nothing_fixed i q ⊎ ((q ≡ place) × HasPassed p nothing_fixed i place)
  parts q h =
      let P : InputValue → Type 0 = λ x. Contains x.places q in
      let R : InputValue → Type 0 = λ x. EachIndex x.jobs (λ k. CanHavePassed p nothing_fixed (x.scope, q) (slice_index x.jobs k)) in
      let passed : HasPassed p nothing_fixed i q = subst R here h.passed in
      elim (Contains-append_cases (input_at p i).places (place ∷ []) q (subst P here h.allowed)) [
        | inl old ↦ inl (record { allowed = old; passed = passed })
        | inr new ↦ elim (contains_cases place q [] new) [
          | inl same ↦ (let Q : ℕ → Type 0 = λ n. HasPassed p nothing_fixed i n in inr (sym same, subst Q (sym same) passed))
          | inr none ↦ absurd (contains_none q none)
        ]
      ]

  module _ (top : ℕ) (was : IsBestPlace (order_of p) p nothing_fixed i top) where
    -- a place that has passed and is preferred to the best one is the best one
    pub best_new : order_of p i place top ≡ true → HasPassed p nothing_fixed i place → IsBestPlace (order_of (with_version p i place)) (with_version p i place) nothing_fixed i place
    best_new first h = (Some place, (made h, λ q possible better. none q possible (sym (same_order q place) ∙ better)), refl)
      where
        old : (o : Option ℕ) → top ≡ unwrap_or o 0 → IsBestPossible (order_of p) p nothing_fixed i o → (q : ℕ) → IsPossible p nothing_fixed i q → order_of p i q top ≡ true → ⊥
        old None e best q h better = best q h
        old (Some x) e best q h better = best.1 q h (ap (order_of p i q) (sym e) ∙ better)

        none : (q : ℕ) → IsPossible (with_version p i place) nothing_fixed i q → order_of p i q place ≡ true → ⊥
        none q possible better =
            elim (parts q possible) [
              | inl possible' ↦ old was.0 was.2 was.1 q possible' ((is_order p).transitive i q place top better first)
              | inr new ↦ false≢true (sym ((is_order p).irreflexive i place) ∙ ap (λ n. order_of p i n place) (sym new.0) ∙ better)
            ]

    -- else the best one stays
    pub best_old : (0 < place) → (order_of p i place top ≡ true → HasPassed p nothing_fixed i place → ⊥) → IsBestPlace (order_of (with_version p i place)) (with_version p i place) nothing_fixed i top
    best_old some lacks = (was.0, best was.0 was.2 was.1, was.2)
      where
        best : (o : Option ℕ) → top ≡ unwrap_or o 0 → IsBestPossible (order_of p) p nothing_fixed i o → IsBestPossible (order_of (with_version p i place)) (with_version p i place) nothing_fixed i o
        best None e old = λ q h. elim (parts q h) [
          | inl possible ↦ old q possible
          | inr new ↦ lacks (ap (order_of p i place) e ∙ before_zero (input_at p i).after place some) new.1
        ]
        best (Some x) e old = (
          kept x old.0,
          λ q h better. elim (parts q h) [
            | inl possible ↦ old.1 q possible (sym (same_order q x) ∙ better)
            | inr new ↦ lacks (ap (order_of p i place) e ∙ ap (λ n. order_of p i n x) (sym new.0) ∙ sym (same_order q x) ∙ better) new.1
          ],
        )
