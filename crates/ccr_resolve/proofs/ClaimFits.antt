-- A choice that satisfies makes a claim that can be written.
use Rattle.std.proofs.Common.{true, ◌≡◌, ℕ, suc, ◌^◌, ◌<◌, ◌≤◌, inl, inr, List, [], ◌∷◌, length, slice_index, refl, arith}
use Rattle.std.specs.Prelude.{Contains, Any}
use Rattle.std.specs.List.{AllByRecursion}
use Rattle.std.proofs.lemmas.Bool.{and_parts, leb-true}
use Rattle.ccr_choice.specs.Problem.{ProblemValue, BuildValue, ChoiceValue, is_problem, input_at, builds_at, are_places_after, are_builds, scopes_after}
use Rattle.ccr_choice.specs.Satisfies.{Satisfies, IsAllowed, IsSuccessful}
use Rattle.ccr_choice.proofs.Bounds.{rules_of, builds_kept}
use Rattle.ccr_proof.specs.declared.claim.Claim.TheVariants.{Best}
use Rattle.ccr_proof.specs.Claim.{IsClaim}
use Rattle.ccr_choice.proofs.Members.{contains_none, contains_cases}
use Rattle.ccr_choice.proofs.Places.{places_kept}
use Rattle.ccr_choice.proofs.Exchange.{below_high}

small_all : (xs : List ℕ) → ((i : ℕ) → i < length xs → slice_index xs i < 2 ^ 32) → AllByRecursion (λ n. n < 2 ^ 32) xs
small_all [] h = tt
small_all (x ∷ xs) h = (h 0 (omega arith), small_all xs (λ i within. h (suc i) (omega arith)))

place_small : (low : ℕ) (xs : List ℕ) (v : ℕ) → are_places_after low xs ≡ true → Contains xs v → v ≤ 100000
place_small low [] v h among = absurd (contains_none v among)
place_small low (x ∷ xs) v h among =
    let a = and_parts _ _ h in
    let b = and_parts _ _ a.1 in
    let few : x ≤ 100000 = leb-true _ _ b.0 in
    elim (contains_cases x v xs among) [ inl same ↦ omega (arith, same, few) | inr more ↦ place_small x xs v b.1 more ]

build_small : (scopes : ℕ) (bs : List BuildValue) (n : ℕ) → are_builds scopes bs ≡ true → Any (λ b. b.number ≡ n) bs → n < 1000001
build_small scopes bs n h (k, b, within, at, is) =
    let low = below_high scopes 1000001 bs b (and_parts _ _ h).1 (k, within, at) in omega (arith, low, is)

module _ (p : ProblemValue) (rules : is_problem p ≡ true) (c : ChoiceValue) (sat : Satisfies p c.places c.builds) where
  allowed_one : (i : ℕ) → IsAllowed p c.places i → Contains (input_at p i).places (slice_index c.places i)
  unfolding IsAllowed
  allowed_one i h = h

  successful_one : (j : ℕ) → IsSuccessful p c.builds j → Any (λ b. b.number ≡ slice_index c.builds j) (builds_at p j)
  unfolding IsSuccessful
  successful_one j h = h

  place_at : (i : ℕ) → i < length c.places → slice_index c.places i < 2 ^ 32
  place_at i within =
      let inside : i < length p.inputs = omega (arith, within, sat.lengths.place_each) in
      let few = place_small 0 (input_at p i).places (slice_index c.places i) (places_kept p i rules inside) (allowed_one i (sat.allowed i inside)) in
      omega (arith, few)

  build_at : (j : ℕ) → j < length c.builds → slice_index c.builds j < 2 ^ 32
  build_at j within =
      let inside : j < length p.jobs = omega (arith, within, sat.lengths.build_each) in
      let few = build_small (scopes_after 0 p.inputs) (builds_at p j) (slice_index c.builds j) (builds_kept p j (builds_at p j) rules inside refl) (successful_one j (sat.successful j inside)) in
      omega (arith, few)

  pub short_claim : IsClaim (Best c)
  short_claim =
      let r = rules_of p rules in
      ((omega (arith, sat.lengths.place_each, r.few_inputs), small_all c.places place_at), (omega (arith, sat.lengths.build_each, r.few_jobs), small_all c.builds build_at))
