-- Where every job has a fixed build and every input a possible place, the best places with these builds satisfy.
use Rattle.std.proofs.Common.{true, ◌≡◌, ◌≢◌, ℕ, zero, suc, ◌<◌, ◌≤◌, inl, inr, List, [], ◌∷◌, ◌++◌, length, slice_index, get_or, refl, sym, ap, ◌∙◌, subst, arith, Option, Some, length-append}
use Rattle.std.specs.Prelude.{Contains, Any, MatchOption}
use Rattle.std.proofs.lemmas.Bool.{cases_lt}
use Rattle.std.proofs.lemmas.Option.{slice_get-get_or}
use Rattle.ccr_choice.specs.Problem.{ProblemValue, BuildValue, ChoiceValue, is_problem, input_at, builds_at}
use Rattle.ccr_choice.specs.Satisfies.{Satisfies, HasLengths, Moved, IsAllowed, IsSuccessful, HasPassed, HasPassedAll}
use Rattle.ccr_choice.proofs.Numbering.{named_below}
use Rattle.ccr_choice.specs.Preference.{order_of}
use Rattle.ccr_choice.specs.Assignment.{Assignment}
use Rattle.ccr_choice.specs.Possible.{CanHavePassed, IsPossible}
use Rattle.ccr_choice.proofs.BestPlaces.{best_places}
use Rattle.ccr_proof.specs.Refutes.{HasNoPlace}
use Rattle.ccr_choice.specs.Table.{build_of, assigned}
use Rattle.ccr_choice.proofs.Members.{any_of}
use Rattle.ccr_choice.proofs.Orders.{is_order}
use Rattle.ccr_choice.proofs.PossibleLaws.{are_only}
use Rattle.ccr_choice.proofs.TableLaws.{build_among}
use Rattle.ccr_resolve.specs.Search.{number_or_0, numbers_of, IsFull, FixesKnown}
use Rattle.ccr_resolve.proofs.Path.{best_is_possible}

pub length-numbers_of : (a : Assignment) (n : ℕ) → length (numbers_of a n) ≡ n
length-numbers_of a zero = refl
length-numbers_of a (suc n) = let e = length-numbers_of a n in let f = length-append (numbers_of a n) (number_or_0 (a n) ∷ []) in omega (arith, e, f)

index_append : (xs : List ℕ) (y k : ℕ) → k < length xs → slice_index (xs ++ y ∷ []) k ≡ slice_index xs k
index_append [] y k within = absurd (omega arith)
index_append (x ∷ xs) y zero within = refl
index_append (x ∷ xs) y (suc k) within = index_append xs y k (omega arith)

index_last : (xs : List ℕ) (y k : ℕ) → k ≡ length xs → slice_index (xs ++ y ∷ []) k ≡ y
index_last [] y zero e = refl
index_last [] y (suc k) e = absurd (omega arith)
index_last (x ∷ xs) y zero e = absurd (omega arith)
index_last (x ∷ xs) y (suc k) e = index_last xs y k (omega arith)

pub number_at : (a : Assignment) (n j : ℕ) → j < n → slice_index (numbers_of a n) j ≡ number_or_0 (a j)
number_at a zero j within = absurd (omega arith)
number_at a (suc n) j within =
    let few = length-numbers_of a n in
    elim (cases_lt j n) [
      | inl less ↦ index_append (numbers_of a n) (number_or_0 (a n)) j (omega (arith, few)) ∙ number_at a n j less
      | inr more ↦ let same : j ≡ n = omega (arith, more, within) in
          index_last (numbers_of a n) (number_or_0 (a n)) j (omega (arith, same, few)) ∙ ap (λ m. number_or_0 (a m)) (sym same)
    ]

-- a fixed build
record IsFixed (bs : List BuildValue) (k : ℕ) : Type 0 where
  build : BuildValue
  is : build_of bs k ≡ Some build

fixed_of : (bs : List BuildValue) (k : ℕ) → k ≢ 0 → k ≤ length bs → IsFixed bs k
fixed_of bs zero some within = absurd (some refl)
fixed_of [] (suc k) some within = absurd (omega arith)
fixed_of (b ∷ bs) (suc k) some within = record { build = get_or (b ∷ bs) k b; is = slice_get-get_or (b ∷ bs) k b (omega arith) }

module _ (p : ProblemValue) (rules : is_problem p ≡ true) (table : List ℕ) (known : FixesKnown p table) (all : (j : ℕ) → j < length p.jobs → slice_index table j ≢ 0)
    (some : (i : ℕ) → HasNoPlace p (assigned p table) i → ⊥) (c : ChoiceValue) (full : IsFull p (assigned p table) c) where
  fixed_at : (j : ℕ) → j < length p.jobs → IsFixed (builds_at p j) (slice_index table j)
  fixed_at j within = fixed_of (builds_at p j) (slice_index table j) (all j within) (known j)

  build_number : (j : ℕ) (within : j < length p.jobs) (b : BuildValue) → assigned p table j ≡ Some b → slice_index c.builds j ≡ b.number
  build_number j within b e =
      ap (λ bs. slice_index bs j) full.1 ∙ number_at (assigned p table) (length p.jobs) j within ∙ ap number_or_0 e

  places_best : c.places ≡ best_places (order_of p) p (assigned p table)
  places_best = are_only (order_of p) (is_order p) p (assigned p table) c.places full.0

  places_are : (i : ℕ) → i < length p.inputs → IsPossible p (assigned p table) i (slice_index c.places i)
  places_are i within =
      let P : List ℕ → Type 0 = λ xs. IsPossible p (assigned p table) i (slice_index xs i) in
      subst P (sym places_best) (best_is_possible (order_of p) (is_order p) p rules (assigned p table) some i within)

  lengths : HasLengths p c.places c.builds
  lengths = record {
    place_each = full.0.place_each;
    build_each = ap length full.1 ∙ length-numbers_of (assigned p table) (length p.jobs);
  }

  allowed : (i : ℕ) → i < length p.inputs → IsAllowed p c.places i
  unfolding IsAllowed
  allowed i within = (places_are i within).allowed

  successful : (j : ℕ) → j < length p.jobs → IsSuccessful p c.builds j
  unfolding IsSuccessful
  successful j within =
      let f = fixed_at j within in
      any_of (λ b. b.number ≡ slice_index c.builds j) f.build (builds_at p j) (build_among (builds_at p j) (slice_index table j) f.build f.is) (sym (build_number j within f.build f.is))

  moved : (pair : ℕ × ℕ) (j : ℕ) → j < length p.jobs → CanHavePassed p (assigned p table) pair j → Moved (builds_at p j) (slice_index c.builds j) pair
  moved pair j within h =
      let f = fixed_at j within in
      let P : Option BuildValue → Type 0 = λ o. MatchOption o (Any (λ b. Contains b.pairs pair) (builds_at p j)) (λ b. Contains b.pairs pair) in
      let has : Contains f.build.pairs pair = subst P f.is h in
      any_of (λ b. (b.number ≡ slice_index c.builds j) × Contains b.pairs pair) f.build (builds_at p j)
      (build_among (builds_at p j) (slice_index table j) f.build f.is) (sym (build_number j within f.build f.is), has)

  passed_one : (i j : ℕ) → j < length p.jobs → CanHavePassed p (assigned p table) ((input_at p i).scope, slice_index c.places i) j → HasPassed p c.places c.builds i j
  unfolding HasPassed
  passed_one i j within h = moved ((input_at p i).scope, slice_index c.places i) j within h

  passed : (i : ℕ) → i < length p.inputs → HasPassedAll p c.places c.builds i
  unfolding HasPassedAll
  passed i within = λ k inside. passed_one i (slice_index (input_at p i).jobs k) (named_below p rules i k within inside) ((places_are i within).passed k inside)

  pub full_satisfies : Satisfies p c.places c.builds
  full_satisfies = record { lengths = lengths; allowed = allowed; successful = successful; passed = passed }
