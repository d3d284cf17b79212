-- The builds of a job are told apart by their numbers, and one that dominates another can take its place.
use Rattle.std.proofs.Common.{◌≡◌, ◌≢◌, ℕ, ◌<◌, inl, inr, List, [], ◌∷◌, length, slice_index, slice_set, true, refl, sym, ap, ◌∙◌, subst, arith}
use Rattle.std.specs.Prelude.{Contains, Any}
use Rattle.std.proofs.lemmas.Bool.{and_parts, ltb-true, cases_eq}
use Rattle.std.proofs.lemmas.List.{length-set, get_or-set_same, get_or-set_other, get_or_default}
use Rattle.std.proofs.lemmas.List.Elements.{All-contains}
use Rattle.ccr_choice.specs.Problem.{ProblemValue, BuildValue, no_input, is_problem, input_at, builds_at, is_build, are_builds_below}
use Rattle.ccr_choice.specs.Satisfies.{Satisfies, Moved, IsSuccessful, HasPassed, HasPassedAll}
use Rattle.ccr_choice.specs.Dominated.{IsNamedIn, IsDominated}
use Rattle.ccr_choice.proofs.Bounds.{builds_kept}
use Rattle.ccr_choice.proofs.Members.{contains_none, contains_cases, any_of}

pub below_high : (scopes high : ℕ) (bs : List BuildValue) (b : BuildValue) → are_builds_below scopes high bs ≡ true → Contains bs b → b.number < high
below_high scopes high [] b h among = absurd (contains_none b among)
below_high scopes high (x ∷ bs) b h among =
    let parts = and_parts (is_build scopes high x) (are_builds_below scopes x.number bs) h in
    let low : x.number < high = ltb-true _ _ (and_parts _ _ (and_parts _ _ parts.0).1).0 in
    elim (contains_cases x b bs among) [
      | inl e ↦ (let P : BuildValue → Type 0 = λ y. y.number < high in subst P e low)
      | inr e ↦ (let less = below_high scopes x.number bs b parts.1 e in omega arith)
    ]

same_build : (scopes high : ℕ) (bs : List BuildValue) (b c : BuildValue) → are_builds_below scopes high bs ≡ true → Contains bs b → Contains bs c → b.number ≡ c.number → b ≡ c
same_build scopes high [] b c h one other same = absurd (contains_none b one)
same_build scopes high (x ∷ bs) b c h one other same =
    let parts = and_parts (is_build scopes high x) (are_builds_below scopes x.number bs) h in
    elim (contains_cases x b bs one) [
      | inl e ↦ elim (contains_cases x c bs other) [
        | inl f ↦ sym e ∙ f
        | inr f ↦ (let less = below_high scopes x.number bs c parts.1 f in absurd (omega (arith, less, same, ap (λ y. y.number) e)))
      ]
      | inr e ↦ elim (contains_cases x c bs other) [
        | inl f ↦ (let less = below_high scopes x.number bs b parts.1 e in absurd (omega (arith, less, same, ap (λ y. y.number) f)))
        | inr f ↦ same_build scopes x.number bs b c parts.1 e f same
      ]
    ]

-- builds of a job that have one number are one
pub build_at : (p : ProblemValue) → is_problem p ≡ true → (j : ℕ) (b c : BuildValue) → j < length p.jobs → Contains (builds_at p j) b → Contains (builds_at p j) c → b.number ≡ c.number → b ≡ c
build_at p rules j b c within one other same =
    let kept = builds_kept p j (builds_at p j) rules within refl in
    same_build _ _ (builds_at p j) b c (and_parts _ _ kept).1 one other same

module _ (p : ProblemValue) (rules : is_problem p ≡ true) (places builds : List ℕ) (j : ℕ) (b other : BuildValue) (sat : Satisfies p places builds) (within : j < length p.jobs)
    (now : slice_index builds j ≡ b.number) (one : Contains (builds_at p j) b) (another : Contains (builds_at p j) other) (dominated : IsDominated p j b other) where
  exchanged : List ℕ
  exchanged = slice_set builds j other.number

  at_job : slice_index exchanged j ≡ other.number
  unfolding exchanged
  at_job = get_or-set_same builds j other.number 0 (omega (arith, sat.lengths.build_each))

  at_others : (k : ℕ) → k ≢ j → slice_index exchanged k ≡ slice_index builds k
  unfolding exchanged
  at_others k differs = get_or-set_other builds j k other.number 0 differs

  still_successful : (k : ℕ) → k < length p.jobs → IsSuccessful p exchanged k
  unfolding IsSuccessful
  still_successful k inside =
      elim (cases_eq k j) [
        | inl same ↦ (let P : ℕ → Type 0 = λ n. Any (λ c. c.number ≡ slice_index exchanged n) (builds_at p n) in
            subst P (sym same) (any_of (λ c. c.number ≡ slice_index exchanged j) other (builds_at p j) another (sym at_job)))
        | inr differs ↦ (let P : ℕ → Type 0 = λ n. Any (λ c. c.number ≡ n) (builds_at p k) in
            subst P (sym (at_others k differs)) (sat.successful k inside))
      ]

  abbrev pair_of : ℕ → ℕ × ℕ
  pair_of i = ((input_at p i).scope, slice_index places i)

  named_in : (i : ℕ) → i < length p.inputs → Contains (input_at p i).jobs j → IsNamedIn p j (input_at p i).scope
  named_in i inside names = (i, input_at p i, inside, get_or_default p.inputs i (input_at p i) no_input inside, (refl, names))

  still_moved : (i : ℕ) → i < length p.inputs → Contains (input_at p i).jobs j → Moved (builds_at p j) (slice_index builds j) (pair_of i) → Moved (builds_at p j) (slice_index exchanged j) (pair_of i)
  still_moved i inside names (k, c, in_builds, at, (numbered, has)) =
      let same : c ≡ b = build_at p rules j c b within (k, in_builds, at) one (numbered ∙ now) in
      let P : BuildValue → Type 0 = λ y. Contains y.pairs (pair_of i) in
      let covered = All-contains (λ q. IsNamedIn p j q.0 → Contains other.pairs q) b.pairs (pair_of i) dominated (subst P same has) (named_in i inside names) in
      any_of (λ d. (d.number ≡ slice_index exchanged j) × Contains d.pairs (pair_of i)) other (builds_at p j) another (sym at_job, covered)

  still_passed : (i : ℕ) → i < length p.inputs → HasPassedAll p places exchanged i
  unfolding HasPassedAll HasPassed
  still_passed i inside = λ k in_jobs.
      let jobs = (input_at p i).jobs in
      let m = slice_index jobs k in
      elim (cases_eq m j) [
        | inl same ↦ (let P : ℕ → Type 0 = λ n. Moved (builds_at p n) (slice_index exchanged n) (pair_of i) in
            let Q : ℕ → Type 0 = λ n. Moved (builds_at p n) (slice_index builds n) (pair_of i) in
            let names : Contains jobs j = (k, in_jobs, get_or_default jobs k j 0 in_jobs ∙ same) in
            subst P (sym same) (still_moved i inside names (subst Q same (sat.passed i inside k in_jobs))))
        | inr differs ↦ (let P : ℕ → Type 0 = λ n. Moved (builds_at p m) n (pair_of i) in
            subst P (sym (at_others m differs)) (sat.passed i inside k in_jobs))
      ]

  -- the choice satisfies with the other build
  pub other_satisfies : Satisfies p places (slice_set builds j other.number)
  unfolding exchanged
  other_satisfies = record {
    lengths = record { place_each = sat.lengths.place_each; build_each = length-set builds j other.number ∙ sat.lengths.build_each };
    allowed = sat.allowed;
    successful = still_successful;
    passed = still_passed;
  }
