-- Best places that are handed down: what they say of inputs without a place and of bounds, and what they are where one
-- more build is fixed.
use Rattle.std.proofs.Common.{true, ◌≡◌, ◌≢◌, ◌↔◌, ℕ, ◌<◌, ◌≤◌, List, take, length, slice_index, refl, sym, ap, ◌∙◌, subst, arith, Option, Some, None}
use Rattle.std.specs.Prelude.{Contains, Any, EachIndex, MatchOption, unwrap_or}
use Rattle.std.proofs.lemmas.Bool.{cond-false, ne_eqb}
use Rattle.std.proofs.lemmas.List.{get_or-take, length-take-le, get_or_default}
use Rattle.ccr_choice.specs.Problem.{ProblemValue, BuildValue, ChoiceValue, is_problem, input_at, builds_at}
use Rattle.ccr_choice.specs.Preference.{order_of, IsBetter}
use Rattle.ccr_choice.specs.Assignment.{Assignment, nothing_fixed, with_build}
use Rattle.ccr_choice.specs.Possible.{IsPossible, IsBestPossible, IsBestPlace, AreBestPlaces, AreBoundedBy}
use Rattle.ccr_choice.specs.Table.{assigned}
use Rattle.ccr_choice.proofs.BestPlaces.{best_places}
use Rattle.ccr_choice.proofs.Orders.{is_order}
use Rattle.ccr_choice.proofs.PossibleLaws.{are_only, bounded_by, best_place_is, best_places_at}
use Rattle.ccr_proof.specs.Refutes.{HasNoPlace}
use Rattle.ccr_index.proofs.BestLaws.{best_some, best_zero}
use Rattle.ccr_resolve.specs.NodeBound.{TopFits}
use Rattle.ccr_resolve.specs.Search.{AreUpper, IsFull, IsNewest, IsTopChoice, OnPath}
use Rattle.ccr_resolve.proofs.FullLaws.{full_satisfies}
use Rattle.ccr_resolve.proofs.Path.{better_irreflexive, known_of, path_possible, possible_free}

module _ (p : ProblemValue) (a : Assignment) (upper : List ℕ) (best : AreUpper p a upper) where
  -- ---- inputs without a place
  pub empty_at : is_problem p ≡ true → (i : ℕ) → i < length p.inputs → slice_index upper i ≡ 0 → HasNoPlace p a i
  empty_at rules i within zero' = (within, λ q h. best_zero (order_of p) p a i (slice_index upper i) rules within (best i within) zero' q h)

  pub place_at : (i : ℕ) → slice_index upper i ≢ 0 → HasNoPlace p a i → ⊥
  place_at i other h = let some = best_some (order_of p) p a i (slice_index upper i) (best i h.0) other in h.1 some.0 some.1

  -- ---- as a list
  pub are_upper : length p.inputs ≤ length upper → AreBestPlaces (order_of p) p a (take (length p.inputs) upper)
  are_upper wide = record {
    place_each = length-take-le (length p.inputs) upper wide;
    best = λ i within.
        let P : ℕ → Type 0 = λ x. IsBestPlace (order_of p) p a i x in
        subst P (sym (get_or-take (length p.inputs) upper i 0 within)) (best i within);
  }

  pub upper_only : length p.inputs ≤ length upper → take (length p.inputs) upper ≡ best_places (order_of p) p a
  upper_only wide = are_only (order_of p) (is_order p) p a (take (length p.inputs) upper) (are_upper wide)

  pub upper_at : (i : ℕ) → i < length p.inputs → slice_index upper i ≡ slice_index (best_places (order_of p) p a) i
  upper_at i within = best_place_is (order_of p) (is_order p) p a i (slice_index upper i) (best i within) ∙ sym (best_places_at (order_of p) p a i within)

  -- ---- bounds
  pub none_better : length p.inputs ≤ length upper → (bound : List ℕ) → (IsBetter (order_of p) (take (length p.inputs) upper) bound → ⊥) ↔ AreBoundedBy (order_of p) p a bound
  none_better wide bound =
      let same = upper_only wide in
      let P : List ℕ → Type 0 = λ ys. IsBetter (order_of p) ys bound in
      let both = bounded_by (order_of p) (is_order p) p a bound in
      (λ h. both.0 (λ better. h (subst P (sym same) better)), λ h better. both.1 h (subst P same better))

-- ---- one more fixed build
module _ (p : ProblemValue) (a c : Assignment) (i : ℕ) (same : EachIndex (input_at p i).jobs (λ k. a (slice_index (input_at p i).jobs k) ≡ c (slice_index (input_at p i).jobs k))) where
  possible_same : (place : ℕ) → IsPossible p a i place → IsPossible p c i place
  possible_same place h = record {
    allowed = h.allowed;
    passed = λ k within.
        let j = slice_index (input_at p i).jobs k in
        let P : Option BuildValue → Type 0 = λ o. MatchOption o (Any (λ b. Contains b.pairs ((input_at p i).scope, place)) (builds_at p j)) (λ b. Contains b.pairs ((input_at p i).scope, place)) in
        subst P (same k within) (h.passed k within);
  }

-- an input that doesn't name the job keeps its best place
pub best_kept : (p : ProblemValue) (a : Assignment) (job : ℕ) (b : BuildValue) (i place : ℕ) → (Contains (input_at p i).jobs job → ⊥) → IsBestPlace (order_of p) p a i place → IsBestPlace (order_of p) p (with_build a job b) i place
best_kept p a job b i place other best = (best.0, kept best.0 best.1, best.2)
  where
    jobs : List ℕ
    jobs = (input_at p i).jobs

    same : EachIndex (input_at p i).jobs (λ k. with_build a job b (slice_index (input_at p i).jobs k) ≡ a (slice_index (input_at p i).jobs k))
    same k within =
        let j = slice_index (input_at p i).jobs k in
        cond-false _ (Some b) (a j) (ne_eqb j job (λ e. other (k, within, get_or_default (input_at p i).jobs k job 0 within ∙ e)))

    kept : (o : Option ℕ) → IsBestPossible (order_of p) p a i o → IsBestPossible (order_of p) p (with_build a job b) i o
    kept None is = λ q h. is q (possible_same p (with_build a job b) a i same q h)
    kept (Some x) is = (possible_same p a (with_build a job b) i (λ k within. sym (same k within)) x is.0, λ q h. is.1 q (possible_same p (with_build a job b) a i same q h))

-- ---- the newest builds
module _ (p : ProblemValue) (rules : is_problem p ≡ true) (upper table : List ℕ) (best : AreUpper p nothing_fixed upper) (newest : IsNewest p table) where
  -- where the best places fit the newest builds, they are the best ones there, too
  pub top_kept : TopFits (order_of p) p → AreUpper p (assigned p table) upper
  top_kept top i within = (
      let path : OnPath (order_of p) p table None = record { nothing = refl; top = top; newest = newest.newest } in
      let P : ℕ → Type 0 = λ x. IsPossible p (assigned p table) i x in
      let possible : P (slice_index upper i) =
      subst P (sym (upper_at p nothing_fixed upper best i within)) (path_possible (order_of p) (is_order p) p rules table None path i within) in
      let h = best i within in
      kept h.0 h.1 (slice_index upper i) h.2 possible)
    where
      free : (place : ℕ) → IsPossible p (assigned p table) i place → IsPossible p nothing_fixed i place
      free place h = possible_free (order_of p) (is_order p) p rules (assigned p table) i place (known_of (order_of p) (is_order p) p rules table) h

      kept : (o : Option ℕ) → IsBestPossible (order_of p) p nothing_fixed i o → (place : ℕ) → place ≡ unwrap_or o 0 → IsPossible p (assigned p table) i place → IsBestPlace (order_of p) p (assigned p table) i place
      kept None is place e h = absurd (is place (free place h))
      kept (Some x) is place e h = (Some place, (h, λ q k better. is.1 q (free q k) (ap ((order_of p) i q) (sym e) ∙ better)), refl)

  -- where they are the best ones there, they make a choice that satisfies
  pub top_choice : length p.inputs ≤ length upper → ((i : ℕ) → HasNoPlace p nothing_fixed i → ⊥) → AreUpper p (assigned p table) upper → (c : ChoiceValue) → IsFull p (assigned p table) c → IsTopChoice p c
  top_choice wide some there c full = (
    full_satisfies p rules table newest.known (λ j within e. let one = newest.all j within in absurd (omega (arith, one, e))) (λ i none. some i (lacking i none)) c full,
    (let same : best_places (order_of p) p nothing_fixed ≡ c.places = sym (upper_only p nothing_fixed upper best wide) ∙ upper_only p (assigned p table) upper there wide ∙ sym (are_only (order_of p) (is_order p) p (assigned p table) c.places full.0) in
        let P : List ℕ → Type 0 = λ xs. AreBoundedBy (order_of p) p nothing_fixed xs in
        subst P same ((bounded_by (order_of p) (is_order p) p nothing_fixed (best_places (order_of p) p nothing_fixed)).0 (better_irreflexive (order_of p) (is_order p) (best_places (order_of p) p nothing_fixed)))),
  )
    where
      lacking : (i : ℕ) → HasNoPlace p (assigned p table) i → HasNoPlace p nothing_fixed i
      lacking i none = empty_at p nothing_fixed upper best rules i none.0 (zero_of (there i none.0).0 (there i none.0).1 (there i none.0).2)
        where
          zero_of : (o : Option ℕ) → IsBestPossible (order_of p) p (assigned p table) i o → slice_index upper i ≡ unwrap_or o 0 → slice_index upper i ≡ 0
          zero_of None is e = e
          zero_of (Some x) is e = absurd (none.1 x is.0)
