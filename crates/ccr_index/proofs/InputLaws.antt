-- A problem with another input in place of one of its own: the best places of the others stay.
use Rattle.std.proofs.Common.{◌≡◌, ◌≢◌, ℕ, ◌<◌, List, length, slice_index, slice_set, true, inl, inr, sym, ap, ◌∙◌, subst, arith, Option, Some, None}
use Rattle.std.specs.Prelude.{Contains, EachIndex}
use Rattle.std.proofs.lemmas.Bool.{cases_eq}
use Rattle.std.proofs.lemmas.List.{get_or-set_same, get_or-set_other, length-set}
use Rattle.ccr_choice.specs.Problem.{ProblemValue, InputValue, no_input, is_problem, input_at}
use Rattle.ccr_choice.specs.Preference.{order_of, prefers_after}
use Rattle.ccr_choice.specs.Assignment.{nothing_fixed}
use Rattle.ccr_choice.specs.Possible.{CanHavePassed, IsPossible, IsBestPossible, IsBestPlace}
use Rattle.ccr_index.specs.Index.{AreTops}

module _ (p : ProblemValue) (i : ℕ) (x : InputValue) (inside : i < length p.inputs) where
  abbrev pub written : ProblemValue
  written = record { inputs = slice_set p.inputs i x; jobs = p.jobs }

  pub here : input_at written i ≡ x
  here = get_or-set_same p.inputs i x no_input inside

  there : (k : ℕ) → k ≢ i → input_at written k ≡ input_at p k
  there k other = get_or-set_other p.inputs i k x no_input other

  best_other : (k : ℕ) → k ≢ i → (top : ℕ) → IsBestPlace (order_of p) p nothing_fixed k top → IsBestPlace (order_of written) written nothing_fixed k top
  best_other k other top was = (was.0, best was.0 was.1, was.2)
    where
      to : (q : ℕ) → IsPossible p nothing_fixed k q → IsPossible written nothing_fixed k q
      to q h =
          let P : InputValue → Type 0 = λ y. Contains y.places q in
          let R : InputValue → Type 0 = λ y. EachIndex y.jobs (λ m. CanHavePassed p nothing_fixed (y.scope, q) (slice_index y.jobs m)) in
          record { allowed = subst P (sym (there k other)) h.allowed; passed = subst R (sym (there k other)) h.passed }

      from : (q : ℕ) → IsPossible written nothing_fixed k q → IsPossible p nothing_fixed k q
      from q h =
          let P : InputValue → Type 0 = λ y. Contains y.places q in
          let R : InputValue → Type 0 = λ y. EachIndex y.jobs (λ m. CanHavePassed p nothing_fixed (y.scope, q) (slice_index y.jobs m)) in
          record { allowed = subst P (there k other) h.allowed; passed = subst R (there k other) h.passed }

      best : (o : Option ℕ) → IsBestPossible (order_of p) p nothing_fixed k o → IsBestPossible (order_of written) written nothing_fixed k o
      best None old = λ q h. old q (from q h)
      best (Some y) old = (to y old.0, λ q h better. old.1 q (from q h) (ap (λ (z : InputValue). prefers_after z.after q y) (sym (there k other)) ∙ better))

  counted : length written.inputs ≡ length p.inputs
  counted = length-set p.inputs i x

  -- so the best places are these, with that of the input written anew
  pub tops_written : is_problem written ≡ true → (tops : List ℕ) (top : ℕ) → AreTops p tops → IsBestPlace (order_of written) written nothing_fixed i top → AreTops written (slice_set tops i top)
  tops_written rules tops top is best = record {
    rules = rules;
    few = omega (arith, counted, is.few);
    long = length-set tops i top ∙ is.long;
    best = λ k within. elim (cases_eq k i) [
      | inl same ↦ (let now : i < length tops = omega (arith, inside, is.few, is.long) in
          let set : slice_index (slice_set tops i top) i ≡ top = get_or-set_same tops i top 0 now in
          let P : ℕ → Type 0 = λ n. IsBestPlace (order_of written) written nothing_fixed n (slice_index (slice_set tops i top) n) in
          let Q : ℕ → Type 0 = λ v. IsBestPlace (order_of written) written nothing_fixed i v in
          subst P (sym same) (subst Q (sym set) best))
      | inr other ↦ (let Q : ℕ → Type 0 = λ v. IsBestPlace (order_of written) written nothing_fixed k v in
          subst Q (sym (get_or-set_other tops i k top 0 other)) (best_other k other (slice_index tops k) (is.best k (omega (arith, within, counted)))))
    ];
  }
