-- The best place of an input where nothing is fixed, once a place is kept for it.
use Rattle.std.proofs.Common.{◌≡◌, ℕ, zero, suc, ◌<◌, ◌≤◌, List, [], ◌∷◌, length, slice_index, slice_index_or, slice_set, true, ◌&&◌, ◌==◌, nat_lt, nat_le, Some, refl, sym, ap, ◌∙◌, subst, arith}
use Rattle.std.specs.Prelude.{EachIndex}
use Rattle.std.specs.List.{list_all}
use Rattle.std.proofs.lemmas.Bool.{and_parts, and_from, lt-ltb, le-leb}
use Rattle.std.proofs.lemmas.List.{length-set}
use Rattle.ccr_choice.specs.Problem.{ProblemValue, InputValue, no_input, is_problem, is_input, is_after, are_inputs, are_distinct, are_numbered, are_places_after, are_builds, next_used, used_after, scopes_after, jobs_after, input_at}
use Rattle.ccr_choice.specs.Preference.{order_of}
use Rattle.ccr_choice.specs.Assignment.{nothing_fixed}
use Rattle.ccr_choice.specs.Possible.{CanHavePassed, IsBestPlace}
use Rattle.ccr_index.specs.Rows.{with_kept}
use Rattle.ccr_index.specs.Ranks.{ranked, AreRankedOf}
use Rattle.ccr_index.specs.Index.{HasPassed, with_after}
use Rattle.ccr_index.proofs.BestLaws as best
use Rattle.ccr_index.proofs.InputLaws as input

-- ---- the best place
module _ (p : ProblemValue) (i place above to : ℕ) (inside : i < length p.inputs) (ranks : AreRankedOf (Some place) (input_at p i).places above to) where
  here : input_at (with_after p i place) i ≡ with_kept (input_at p i) place
  here = input.here p i (with_kept (input_at p i) place) inside

  ranks_there : AreRankedOf (input_at (with_after p i place) i).after (input_at (with_after p i place) i).places above to
  ranks_there = let P : InputValue → Type 0 = λ x. AreRankedOf x.after x.places above to in subst P (sym here) ranks

  -- what has passed is the same
  same_places : (k : ℕ) → slice_index (input_at (with_after p i place) i).places k ≡ slice_index (input_at p i).places k
  same_places k = ap (λ (x : InputValue). slice_index x.places k) here

  passed_there : (q : ℕ) → HasPassed p nothing_fixed i q → HasPassed (with_after p i place) nothing_fixed i q
  passed_there q h =
      let R : InputValue → Type 0 = λ x. EachIndex x.jobs (λ k. CanHavePassed p nothing_fixed (x.scope, q) (slice_index x.jobs k)) in
      subst R (sym here) h

  passed_here : (q : ℕ) → HasPassed (with_after p i place) nothing_fixed i q → HasPassed p nothing_fixed i q
  passed_here q h =
      let R : InputValue → Type 0 = λ x. EachIndex x.jobs (λ k. CanHavePassed p nothing_fixed (x.scope, q) (slice_index x.jobs k)) in
      subst R here h

  none_there : (r : ℕ) → ((s : ℕ) → s < r → HasPassed p nothing_fixed i (slice_index (input_at p i).places (ranked above to s)) → ⊥)
      → (s : ℕ) → s < r → HasPassed (with_after p i place) nothing_fixed i (slice_index (input_at (with_after p i place) i).places (ranked above to s)) → ⊥
  none_there r none s less h =
      let P : ℕ → Type 0 = λ q. HasPassed p nothing_fixed i q in
      none s less (subst P (same_places (ranked above to s)) (passed_here _ h))

  pub first_after : (r : ℕ) → r < to → HasPassed p nothing_fixed i (slice_index (input_at p i).places (ranked above to r))
      → ((s : ℕ) → s < r → HasPassed p nothing_fixed i (slice_index (input_at p i).places (ranked above to s)) → ⊥)
      → IsBestPlace (order_of (with_after p i place)) (with_after p i place) nothing_fixed i (slice_index (input_at p i).places (ranked above to r))
  first_after r within passed none =
      let k = ranked above to r in
      let P : ℕ → Type 0 = λ q. IsBestPlace (order_of (with_after p i place)) (with_after p i place) nothing_fixed i q in
      let Q : ℕ → Type 0 = λ q. HasPassed (with_after p i place) nothing_fixed i q in
      subst P (same_places k) (best.first_passed (with_after p i place) i above to ranks_there r within (subst Q (sym (same_places k)) (passed_there _ passed)) (none_there r none))

  pub none_after : (r : ℕ) → to ≤ r → ((s : ℕ) → s < r → HasPassed p nothing_fixed i (slice_index (input_at p i).places (ranked above to s)) → ⊥)
      → IsBestPlace (order_of (with_after p i place)) (with_after p i place) nothing_fixed i 0
  none_after r all none = best.none_passed (with_after p i place) i above to ranks_there r all (none_there r none)

-- ---- the rules
one_kept : (s j : ℕ) (x : InputValue) (place : ℕ) → 0 < place → place ≤ 100000 → is_input s j x ≡ true → is_input s j (with_kept x place) ≡ true
one_kept s j x place some most h =
    let last = are_places_after 0 x.places in
    let rest = is_after x.after && last in
    let b = and_parts (nat_le x.scope s) (are_distinct x.jobs && (are_numbered j x.jobs && rest)) h in
    let c = and_parts (are_distinct x.jobs) (are_numbered j x.jobs && rest) b.1 in
    let d = and_parts (are_numbered j x.jobs) rest c.1 in
    let e = and_parts (is_after x.after) last d.1 in
    let kept : is_after (Some place) ≡ true = and_from (nat_lt 0 place) _ (lt-ltb _ _ some) (le-leb _ _ most) in
    and_from (nat_le x.scope s) _ b.0 (and_from (are_distinct x.jobs) _ c.0 (and_from (are_numbered j x.jobs) _ d.0 (and_from (is_after (Some place)) last kept e.1)))

inputs_kept : (is : List InputValue) (i place s j : ℕ) → i < length is → 0 < place → place ≤ 100000 → are_inputs s j is ≡ true
    → are_inputs s j (slice_set is i (with_kept (slice_index_or is i no_input) place)) ≡ true
inputs_kept [] i place s j within some most h = absurd (omega (arith, within))
inputs_kept (y ∷ ys) zero place s j within some most h =
    let a = and_parts (is_input s j y) (are_inputs (next_used s y.scope) (used_after j y.jobs) ys) h in
    and_from (is_input s j (with_kept y place)) _ (one_kept s j y place some most a.0) a.1
inputs_kept (y ∷ ys) (suc i) place s j within some most h =
    let a = and_parts (is_input s j y) (are_inputs (next_used s y.scope) (used_after j y.jobs) ys) h in
    and_from (is_input s j y) _ a.0 (inputs_kept ys i place (next_used s y.scope) (used_after j y.jobs) (omega (arith, within)) some most a.1)

scopes_kept : (is : List InputValue) (i place s : ℕ) → i < length is → scopes_after s (slice_set is i (with_kept (slice_index_or is i no_input) place)) ≡ scopes_after s is
scopes_kept [] i place s within = absurd (omega (arith, within))
scopes_kept (y ∷ ys) zero place s within = refl
scopes_kept (y ∷ ys) (suc i) place s within = scopes_kept ys i place (next_used s y.scope) (omega (arith, within))

jobs_kept : (is : List InputValue) (i place j : ℕ) → i < length is → jobs_after j (slice_set is i (with_kept (slice_index_or is i no_input) place)) ≡ jobs_after j is
jobs_kept [] i place j within = absurd (omega (arith, within))
jobs_kept (y ∷ ys) zero place j within = refl
jobs_kept (y ∷ ys) (suc i) place j within = jobs_kept ys i place (used_after j y.jobs) (omega (arith, within))

-- a problem that keeps the rules keeps them with this place kept
pub after_kept : (p : ProblemValue) (i place : ℕ) → is_problem p ≡ true → i < length p.inputs → 0 < place → place ≤ 100000 → is_problem (with_after p i place) ≡ true
after_kept p i place h within some most =
    let few = nat_le (length p.inputs) 32 in
    let counted = length p.jobs == jobs_after 0 p.inputs in
    let builds = list_all (are_builds (scopes_after 0 p.inputs)) p.jobs in
    let a = and_parts few (are_inputs 0 0 p.inputs && (counted && builds)) h in
    let b = and_parts (are_inputs 0 0 p.inputs) (counted && builds) a.1 in
    let c = and_parts counted builds b.1 in
    let is = slice_set p.inputs i (with_kept (input_at p i) place) in
    and_from (nat_le (length is) 32) _ (ap (λ n. nat_le n 32) (length-set p.inputs i (with_kept (input_at p i) place)) ∙ a.0)
    (and_from (are_inputs 0 0 is) _ (inputs_kept p.inputs i place 0 0 within some most b.0)
    (and_from (length p.jobs == jobs_after 0 is) _ (ap (λ n. length p.jobs == n) (jobs_kept p.inputs i place 0 within) ∙ c.0)
    (ap (λ n. list_all (are_builds n) p.jobs) (scopes_kept p.inputs i place 0 within) ∙ c.1)))
