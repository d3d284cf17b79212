-- What is possible where nothing is fixed, once a job has one more build.
use Rattle.std.proofs.Common.{◌≡◌, ◌≢◌, ℕ, ◌<◌, ◌⊎◌, List, [], ◌∷◌, length, slice_index, true, inl, inr, refl, sym, ap, ◌∙◌, subst, Option, Some, None}
use Rattle.std.specs.Prelude.{Any, Contains, unwrap_or}
use Rattle.std.proofs.lemmas.Bool.{cases_Bool, cases_eq, false≢true}
use Rattle.std.proofs.lemmas.List.{get_or-set_same, get_or-set_other}
use Rattle.ccr_choice.specs.Problem.{ProblemValue, BuildValue, is_problem, input_at, builds_at}
use Rattle.ccr_choice.specs.Preference.{order_of}
use Rattle.ccr_choice.specs.Assignment.{nothing_fixed}
use Rattle.ccr_choice.specs.Possible.{IsPossible, IsBestPossible, IsBestPlace}
use Rattle.ccr_choice.proofs.BestPlaces.{has_pair}
use Rattle.ccr_choice.proofs.Members.{any_first, any_later, any_cases}
use Rattle.ccr_choice.proofs.Orders.{is_order, before_zero}
use Rattle.ccr_choice.proofs.PossibleLaws.{tests_pair}
use Rattle.ccr_index.specs.Index.{with_new_build, IsPossibleWith}
use Rattle.ccr_index.proofs.BestLaws.{not_zero}

module _ (p : ProblemValue) (job : ℕ) (b : BuildValue) (i : ℕ) (inside : job < length p.jobs) where
  here : builds_at (with_new_build p job b) job ≡ b ∷ builds_at p job
  here = get_or-set_same p.jobs job (b ∷ builds_at p job) [] inside

  there : (k : ℕ) → k ≢ job → builds_at (with_new_build p job b) k ≡ builds_at p k
  there k other = get_or-set_other p.jobs job k (b ∷ builds_at p job) [] other

  -- what some build had, some build has
  still : (pair : ℕ × ℕ) (k : ℕ) → Any (λ x. Contains x.pairs pair) (builds_at p k) → Any (λ x. Contains x.pairs pair) (builds_at (with_new_build p job b) k)
  still pair k h =
      let P : List BuildValue → Type 0 = λ bs. Any (λ x. Contains x.pairs pair) bs in
      let R : ℕ → Type 0 = λ n. Any (λ x. Contains x.pairs pair) (builds_at p n) → Any (λ x. Contains x.pairs pair) (builds_at (with_new_build p job b) n) in
      elim (cases_eq k job) [
        | inl same ↦ subst R (sym same) (λ g. subst P (sym here) (any_later (λ x. Contains x.pairs pair) b (builds_at p job) g)) h
        | inr other ↦ subst P (sym (there k other)) h
      ]

  -- what some build has, some build had, but for the new one's
  was : (pair : ℕ × ℕ) (k : ℕ) → (Contains b.pairs pair → ⊥) → Any (λ x. Contains x.pairs pair) (builds_at (with_new_build p job b) k) → Any (λ x. Contains x.pairs pair) (builds_at p k)
  was pair k none h =
      let P : List BuildValue → Type 0 = λ bs. Any (λ x. Contains x.pairs pair) bs in
      let R : ℕ → Type 0 = λ n. Any (λ x. Contains x.pairs pair) (builds_at (with_new_build p job b) n) → Any (λ x. Contains x.pairs pair) (builds_at p n) in
      elim (cases_eq k job) [
        | inl same ↦ subst R (sym same) (λ g. elim (any_cases (λ x. Contains x.pairs pair) b (builds_at p job) (subst P here g)) [
          | inl new ↦ absurd (none new)
          | inr old ↦ old
        ]) h
        | inr other ↦ subst P (there k other) h
      ]

  -- what was possible is
  kept : (place : ℕ) → IsPossible p nothing_fixed i place → IsPossible (with_new_build p job b) nothing_fixed i place
  kept place h = record { allowed = h.allowed; passed = λ k within. still ((input_at p i).scope, place) (slice_index (input_at p i).jobs k) (h.passed k within) }

  -- so is what the new build has and the other jobs have
  made : (place : ℕ) → Contains b.pairs ((input_at p i).scope, place) → IsPossibleWith p job i place → IsPossible (with_new_build p job b) nothing_fixed i place
  made place has h = record {
    allowed = h.allowed;
    passed = λ k within. let P : List BuildValue → Type 0 = λ bs. Any (λ x. Contains x.pairs ((input_at p i).scope, place)) bs in
        let R : ℕ → Type 0 = λ n. P (builds_at (with_new_build p job b) n) in
        elim (cases_eq (slice_index (input_at p i).jobs k) job) [
          | inl same ↦ subst R (sym same) (subst P (sym here) (any_first (λ x. Contains x.pairs ((input_at p i).scope, place)) b (builds_at p job) has))
          | inr other ↦ subst P (sym (there _ other)) (h.passed k within other)
        ];
  }

  -- and nothing else
  parts : (place : ℕ) → IsPossible (with_new_build p job b) nothing_fixed i place
      → IsPossible p nothing_fixed i place ⊎ (Contains b.pairs ((input_at p i).scope, place) × IsPossibleWith p job i place)
  parts place h =
      let pair : ℕ × ℕ = ((input_at p i).scope, place) in
      let test = tests_pair pair b.pairs in
      let P : List BuildValue → Type 0 = λ bs. Any (λ x. Contains x.pairs pair) bs in
      elim (cases_Bool (has_pair pair b.pairs)) [
        | inl has ↦ inr (test.0 has, record { allowed = h.allowed; passed = λ k within other. subst P (there _ other) (h.passed k within) })
        | inr lacks ↦ inl (record { allowed = h.allowed; passed = λ k within. was pair (slice_index (input_at p i).jobs k) (λ c. false≢true (sym lacks ∙ test.1 c)) (h.passed k within) })
      ]

  module _ (top : ℕ) (is : IsBestPlace (order_of p) p nothing_fixed i top) where
    -- nothing that was possible is preferred to the best place
    was_behind : (o : Option ℕ) → top ≡ unwrap_or o 0 → IsBestPossible (order_of p) p nothing_fixed i o → (place : ℕ) → IsPossible p nothing_fixed i place → order_of p i place top ≡ true → ⊥
    was_behind None e best place h better = best place h
    was_behind (Some x) e best place h better = best.1 place h (ap (order_of p i place) (sym e) ∙ better)

    -- the best place stays, where the new build has no better one
    pub top_stays : is_problem p ≡ true → i < length p.inputs
        → ((place : ℕ) → IsPossibleWith p job i place → Contains b.pairs ((input_at p i).scope, place) → order_of p i place top ≡ true → ⊥)
        → IsBestPlace (order_of p) (with_new_build p job b) nothing_fixed i top
    top_stays rules within none = (is.0, best is.0 is.2 is.1, is.2)
      where
        best : (o : Option ℕ) → top ≡ unwrap_or o 0 → IsBestPossible (order_of p) p nothing_fixed i o → IsBestPossible (order_of p) (with_new_build p job b) nothing_fixed i o
        best None e old = λ place h. elim (parts place h) [
          | inl was ↦ old place was
          | inr new ↦ none place new.1 new.0 (ap (order_of p i place) e ∙ before_zero (input_at p i).after place (not_zero p i place rules within new.1.allowed))
        ]
        best (Some x) e old = (
          kept x old.0,
          λ place h better. elim (parts place h) [
            | inl was ↦ old.1 place was better
            | inr new ↦ none place new.1 new.0 (ap (order_of p i place) e ∙ better)
          ],
        )

    -- the new build's best place is the best, where it is better
    pub top_rises : (x : ℕ) → order_of p i x top ≡ true → Contains b.pairs ((input_at p i).scope, x) → IsPossibleWith p job i x
        → ((place : ℕ) → IsPossibleWith p job i place → Contains b.pairs ((input_at p i).scope, place) → order_of p i place x ≡ true → ⊥)
        → IsBestPlace (order_of p) (with_new_build p job b) nothing_fixed i x
    top_rises x first has possible none = (
      Some x,
      (
        made x has possible,
        λ place h better. elim (parts place h) [
          | inl was ↦ was_behind is.0 is.2 is.1 place was ((is_order p).transitive i place x top better first)
          | inr new ↦ none place new.1 new.0 better
        ],
      ),
      refl,
    )
