-- What is looked up under a table of fixed builds, what is the same where nothing is fixed, the best place there, and counts.
use Rattle.std.proofs.Common.{◌≡◌, ◌≢◌, ℕ, zero, suc, ◌+◌, ◌<◌, ◌≤◌, List, [], ◌∷◌, ◌++◌, length, slice_index, slice_index_or, inl, inr, refl, sym, ap, ◌∙◌, subst, arith, true, Option, Some, None}
use Rattle.std.specs.Prelude.{EachIndex, Contains, Any, MatchOption, slice_get, unwrap_or}
use Rattle.std.specs.Option.{option_map}
use Rattle.std.proofs.lemmas.Bool.{and_parts, cases_lt, ltb-true}
use Rattle.std.proofs.lemmas.List.{get_or_default, get_or_past}
use Rattle.std.proofs.lemmas.Option.{slice_get_past, slice_get-get_or}
use mathlib.Core.Path.{fun_ext}
use Rattle.ccr_choice.specs.Problem.{ProblemValue, BuildValue, is_problem, are_places_after, input_at, builds_at}
use Rattle.ccr_choice.specs.Preference.{Preference, order_of}
use Rattle.ccr_choice.specs.Assignment.{Assignment, nothing_fixed}
use Rattle.ccr_choice.specs.Possible.{IsPossible, IsBestPossible, IsBestPlace}
use Rattle.ccr_choice.specs.Table.{assigned, build_of}
use Rattle.ccr_choice.proofs.Places.{places_kept}
use Rattle.ccr_index.specs.Rows.{no_build, numbered}
use Rattle.ccr_index.specs.Ranks.{ranked, AreRankedOf}
use Rattle.ccr_index.specs.Index.{HasPassed, IsCount, fixed_by}
use Rattle.ccr_index.proofs.RankLaws.{IsAt, ranked_below, none_left, none_preferred}

-- ---- a fixed build
pub fixed_some : (p : ProblemValue) (table : List ℕ) (job k : ℕ) (bs : List BuildValue) → bs ≡ builds_at p job → slice_index table job ≡ suc k → k < length bs
    → Some (slice_index_or bs k no_build).pairs ≡ option_map (λ b. b.pairs) (assigned p table job)
fixed_some p table job k bs e at within =
    sym (ap (λ n. option_map (λ b. b.pairs) (build_of (builds_at p job) n)) at
    ∙ ap (λ xs. option_map (λ b. b.pairs) (slice_get xs k)) (sym e)
    ∙ ap (option_map (λ b. b.pairs)) (slice_get-get_or bs k no_build within))

-- no fixed build, since the table goes past the builds
pub fixed_none : (p : ProblemValue) (table : List ℕ) (job k : ℕ) (bs : List BuildValue) → bs ≡ builds_at p job → slice_index table job ≡ suc k → length bs ≤ k
    → None ≡ option_map (λ b. b.pairs) (assigned p table job)
fixed_none p table job k bs e at past =
    sym (ap (λ n. option_map (λ b. b.pairs) (build_of (builds_at p job) n)) at
    ∙ ap (λ xs. option_map (λ b. b.pairs) (slice_get xs k)) (sym e)
    ∙ ap (option_map (λ b. b.pairs)) (slice_get_past bs k past))

-- positions and numbers that fix the same build of each job fix the same builds
pub positions_are : (p : ProblemValue) (table numbers : List ℕ) → ((j : ℕ) → j < length p.jobs → build_of (builds_at p j) (slice_index table j) ≡ numbered (builds_at p j) (slice_index numbers j))
    → assigned p table ≡ fixed_by p numbers
positions_are p table numbers same = fun_ext one
  where
    of_none : (n m : ℕ) → build_of [] n ≡ numbered [] m
    of_none zero m = refl
    of_none (suc n) m = refl

    one : (j : ℕ) → assigned p table j ≡ fixed_by p numbers j
    one j = elim (cases_lt j (length p.jobs)) [
      | inl within ↦ same j within
      | inr past ↦ (let P : List BuildValue → Type 0 = λ bs. build_of bs (slice_index table j) ≡ numbered bs (slice_index numbers j) in
          subst P (sym (get_or_past p.jobs j [] past)) (of_none (slice_index table j) (slice_index numbers j)))
    ]

-- ---- an input whose jobs are free
module _ (p : ProblemValue) (a : Assignment) (i : ℕ) (free : EachIndex (input_at p i).jobs (λ k. a (slice_index (input_at p i).jobs k) ≡ None)) where
  -- what is possible is possible where nothing is fixed
  possible_free : (place : ℕ) → IsPossible p a i place → IsPossible p nothing_fixed i place
  possible_free place h = record {
    allowed = h.allowed;
    passed = λ k within.
        let j = slice_index (input_at p i).jobs k in
        let P : Option BuildValue → Type 0 = λ o. MatchOption o (Any (λ b. Contains b.pairs ((input_at p i).scope, place)) (builds_at p j)) (λ b. Contains b.pairs ((input_at p i).scope, place)) in
        subst P (free k within) (h.passed k within);
  }

  possible_still : (place : ℕ) → IsPossible p nothing_fixed i place → IsPossible p a i place
  possible_still place h = record {
    allowed = h.allowed;
    passed = λ k within.
        let j = slice_index (input_at p i).jobs k in
        let P : Option BuildValue → Type 0 = λ o. MatchOption o (Any (λ b. Contains b.pairs ((input_at p i).scope, place)) (builds_at p j)) (λ b. Contains b.pairs ((input_at p i).scope, place)) in
        subst P (sym (free k within)) (h.passed k within);
  }

  -- it has the best place that it has where nothing is fixed
  pub best_free : (prefers : Preference) (place : ℕ) → IsBestPlace prefers p nothing_fixed i place → IsBestPlace prefers p a i place
  best_free prefers place best = (best.0, moved best.0 best.1, best.2)
    where
      moved : (o : Option ℕ) → IsBestPossible prefers p nothing_fixed i o → IsBestPossible prefers p a i o
      moved None is = λ q h. is q (possible_free q h)
      moved (Some x) is = (possible_still x is.0, λ q h. is.1 q (possible_free q h))

-- a best place is a possible one, or 0 where none is
pub best_some : (prefers : Preference) (p : ProblemValue) (a : Assignment) (i place : ℕ) → IsBestPlace prefers p a i place → place ≢ 0 → (q : ℕ) × IsPossible p a i q
best_some prefers p a i place best other = found best.0 best.1 best.2
  where
    found : (o : Option ℕ) → IsBestPossible prefers p a i o → place ≡ unwrap_or o 0 → (q : ℕ) × IsPossible p a i q
    found None is e = absurd (other e)
    found (Some x) is e = (x, is.0)

-- ---- a place isn't 0
above : (low : ℕ) (xs : List ℕ) → are_places_after low xs ≡ true → (k : ℕ) → k < length xs → low < slice_index xs k
above low [] h k within = absurd (omega arith)
above low (x ∷ xs) h zero within = ltb-true low x (and_parts _ _ h).0
above low (x ∷ xs) h (suc k) within =
    let a = and_parts _ _ h in
    let rest = above x xs (and_parts _ _ a.1).1 k (omega arith) in
    omega (arith, rest, ltb-true low x a.0)

-- an allowed place isn't 0
pub not_zero : (p : ProblemValue) (i place : ℕ) → is_problem p ≡ true → i < length p.inputs → Contains (input_at p i).places place → 0 < place
not_zero p i place rules inside (k, within, at) =
    let first = above 0 (input_at p i).places (places_kept p i rules inside) k within in
    omega (arith, first, get_or_default (input_at p i).places k 0 place within ∙ at)

-- so where the best place is 0, none is possible
pub best_zero : (prefers : Preference) (p : ProblemValue) (a : Assignment) (i place : ℕ) → is_problem p ≡ true → i < length p.inputs → IsBestPlace prefers p a i place → place ≡ 0 → (q : ℕ) → IsPossible p a i q → ⊥
best_zero prefers p a i place rules inside best zero' q h = found best.0 best.1 best.2
  where
    found : (o : Option ℕ) → IsBestPossible prefers p a i o → place ≡ unwrap_or o 0 → ⊥
    found None is e = is q h
    found (Some x) is e = let more = not_zero p i x rules inside is.0.allowed in omega (arith, more, e, zero')

-- ---- the first place that has passed, from the most preferred one on
module _ (p : ProblemValue) (i above to : ℕ) (ranks : AreRankedOf (input_at p i).after (input_at p i).places above to) where
  at : (q : ℕ) → Contains (input_at p i).places q
      → IsAt (slice_index (input_at p i).places) (λ m. m < to) above to (input_at p i).after ranks.1 (HasPassed p nothing_fixed i) q
  at q (m, within, here) =
      let inside : m < to = omega (arith, within, ranks.0) in
      record { position = m; within = inside; counts = inside; here = get_or_default (input_at p i).places m 0 q within ∙ here }

  pub first_passed : (r : ℕ) → r < to → HasPassed p nothing_fixed i (slice_index (input_at p i).places (ranked above to r))
      → ((s : ℕ) → s < r → HasPassed p nothing_fixed i (slice_index (input_at p i).places (ranked above to s)) → ⊥)
      → IsBestPlace (order_of p) p nothing_fixed i (slice_index (input_at p i).places (ranked above to r))
  first_passed r within passed none =
      let xs = (input_at p i).places in
      let k = ranked above to r in
      let x = slice_index xs k in
      let below : k < to = ranked_below above to r ranks.1.split within in
      let inside : k < length xs = omega (arith, below, ranks.0) in (
        Some x,
        (
          record { allowed = (k, inside, get_or_default xs k x 0 inside); passed = passed },
          λ q h better. none_preferred (slice_index xs) (λ m. m < to) above to (input_at p i).after ranks.1 (HasPassed p nothing_fixed i) r (λ s less counts h'. none s less h') within below q h.passed (at q h.allowed) better,
        ),
        refl,
      )

  pub none_passed : (r : ℕ) → to ≤ r → ((s : ℕ) → s < r → HasPassed p nothing_fixed i (slice_index (input_at p i).places (ranked above to s)) → ⊥)
      → IsBestPlace (order_of p) p nothing_fixed i 0
  none_passed r all none = (
    None,
    λ q h. none_left (slice_index (input_at p i).places) (λ m. m < to) above to (input_at p i).after ranks.1 (HasPassed p nothing_fixed i) r (λ s less counts h'. none s less h') all q h.passed (at q h.allowed),
    refl,
  )

-- ---- counts
pub count_yes : {X : Type 0} (P : X → Type 0) (xs : List X) (x : X) (n : ℕ) → IsCount P xs n → P x → IsCount P (xs ++ x ∷ []) (n + 1)
count_yes P [] x n h has = inl (has, (0, omega (arith, h), refl))
count_yes P (y ∷ xs) x n h has =
    elim h [
      | inl there ↦ inl (there.0, (there.1.0 + 1, omega (arith, there.1.1), count_yes P xs x there.1.0 there.1.2 has))
      | inr lacks ↦ inr (lacks.0, count_yes P xs x n lacks.1 has)
    ]

pub count_no : {X : Type 0} (P : X → Type 0) (xs : List X) (x : X) (n : ℕ) → IsCount P xs n → (P x → ⊥) → IsCount P (xs ++ x ∷ []) n
count_no P [] x n h has = inr (has, h)
count_no P (y ∷ xs) x n h has =
    elim h [
      | inl there ↦ inl (there.0, (there.1.0, there.1.1, count_no P xs x there.1.0 there.1.2 has))
      | inr lacks ↦ inr (lacks.0, count_no P xs x n lacks.1 has)
    ]
