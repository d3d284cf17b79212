-- The best possible place, from what was found.
use Rattle.std.proofs.Common.{◌≡◌, ℕ, zero, suc, ◌-◌, ◌<◌, ◌≤◌, List, [], ◌∷◌, length, get_or, slice_index, slice_index_or, Bool, true, ◌&&◌, inl, inr, refl, sym, ap, ◌∙◌, subst, arith, Option, Some, None}
use Rattle.std.specs.Prelude.{Contains, IfSome, MatchOption, slice_get, nat_le}
use Rattle.std.proofs.lemmas.Bool.{and_parts, ltb-true, leb-true, le-leb, cases_lt}
use Rattle.std.proofs.lemmas.Bool.Decides.{nat_tests}
use Rattle.std.proofs.lemmas.List.{get_or_default, get_or_read}
use Rattle.std.proofs.lemmas.Option.{slice_get_within, get_or_from_slice_get, slice_get-get_or}
use Rattle.std.specs.List.Sorted.{IsPartitionedBy}
use Rattle.ccr_choice.specs.Problem.{ProblemValue, InputValue, no_input, is_problem, is_input, are_inputs, are_distinct, are_numbered, are_places_after, is_after, next_used, used_after, input_at}
use Rattle.ccr_choice.specs.Ascending.{AreRising}
use Rattle.ccr_choice.specs.Preference.{prefers_after, order_of, IsMostPreferred}
use Rattle.ccr_choice.specs.Assignment.{Assignment}
use Rattle.ccr_choice.specs.Possible.{IsPossible, IsBestPossible, Reaches}
use Rattle.ccr_choice.proofs.Bounds.{rules_of}
use Rattle.ccr_choice.proofs.Members.{contains_none}

-- what is possible, and reaches each possible place, is the best
pub best_reached : (prefers : ℕ → ℕ → ℕ → Bool) (p : ProblemValue) (a : Assignment) (i : ℕ) (o : Option ℕ) → IfSome o (IsPossible p a i)
    → ((place : ℕ) → IsPossible p a i place → Reaches (prefers i) o place) → IsBestPossible prefers p a i o
best_reached prefers p a i None possible reached = reached
best_reached prefers p a i (Some x) possible reached = (possible, reached)

one_places : (scopes jobs : ℕ) (x : InputValue) → is_input scopes jobs x ≡ true → are_places_after 0 x.places ≡ true
one_places scopes jobs x h =
    let last : Bool = are_places_after 0 x.places in
    let kept : Bool = is_after x.after && last in
    let a = and_parts (nat_le x.scope scopes) (are_distinct x.jobs && (are_numbered jobs x.jobs && kept)) h in
    let b = and_parts (are_distinct x.jobs) (are_numbered jobs x.jobs && kept) a.1 in
    (and_parts (is_after x.after) last (and_parts (are_numbered jobs x.jobs) kept b.1).1).1

input_places : (scopes jobs : ℕ) (is : List InputValue) → are_inputs scopes jobs is ≡ true → (i : ℕ) → i < length is → are_places_after 0 (slice_index_or is i no_input).places ≡ true
input_places scopes jobs [] h i within = absurd (omega arith)
input_places scopes jobs (x ∷ is) h zero within =
    one_places scopes jobs x (and_parts (is_input scopes jobs x) (are_inputs (next_used scopes x.scope) (used_after jobs x.jobs) is) h).0
input_places scopes jobs (x ∷ is) h (suc i) within =
    input_places (next_used scopes x.scope) (used_after jobs x.jobs) is (and_parts (is_input scopes jobs x) (are_inputs (next_used scopes x.scope) (used_after jobs x.jobs) is) h).1 i (omega arith)

-- the allowed places of an input ascend
pub places_kept : (p : ProblemValue) (i : ℕ) → is_problem p ≡ true → i < length p.inputs → are_places_after 0 (input_at p i).places ≡ true
places_kept p i h within = input_places 0 0 p.inputs (rules_of p h).inputs i within

pub input_is : (p : ProblemValue) (is : List InputValue) (i : ℕ) (x : InputValue) → is ≡ p.inputs → i < length p.inputs → x ≡ slice_index_or is i x → x ≡ input_at p i
input_is p is i x e within at =
    let same : x ≡ slice_index_or p.inputs i x = at ∙ ap (λ ys. slice_index_or ys i x) e in
    get_or_read p.inputs i x within same no_input

-- the most preferred allowed place is the best, where it is possible
pub top_best : (p : ProblemValue) (a : Assignment) (i : ℕ) (o : Option ℕ) → MatchOption o ((input_at p i).places ≡ []) (IsMostPreferred (order_of p i) (input_at p i).places)
    → IfSome o (IsPossible p a i) → IsBestPossible (order_of p) p a i o
top_best p a i None none possible = λ place h. contains_none place (let P : List ℕ → Type 0 = λ xs. Contains xs place in subst P none h.allowed)
top_best p a i (Some x) most possible = (possible, λ place h better. most.none_before place h.allowed better)

-- where no job is named, each allowed place is possible
pub free_possible : (p : ProblemValue) (a : Assignment) (i : ℕ) (o : Option ℕ) → (input_at p i).jobs ≡ [] → MatchOption o ((input_at p i).places ≡ []) (IsMostPreferred (order_of p i) (input_at p i).places)
    → IfSome o (IsPossible p a i)
free_possible p a i None free top = tt
free_possible p a i (Some x) free top = record { allowed = top.among; passed = λ k inside. absurd (omega (arith, inside, ap length free)) }

-- ---- the most preferred of places that ascend
module _ (xs : List ℕ) (rises : AreRising xs) where
  rises_to : (k m : ℕ) → k ≤ m → m < length xs → slice_index xs k ≤ slice_index xs m
  rises_to k m le within =
      elim (cases_lt k m) [
        | inl less ↦ omega (arith, ltb-true _ _ (rises k m 0 less within))
        | inr same ↦ (let e : k ≡ m = omega arith in omega (arith, ap (slice_index xs) e))
      ]

  -- where none is kept, or none lies above it, the last one
  pub last_most : (after : Option ℕ) (x : ℕ) → ((k : ℕ) → k < length xs → IfSome after (λ u. slice_index xs k ≤ u)) → 0 < length xs → slice_index xs (length xs - 1) ≡ x → IsMostPreferred (prefers_after after) xs x
  last_most after x low some last = record {
    among = (length xs - 1, omega arith, get_or_default xs (length xs - 1) x 0 (omega arith) ∙ last);
    none_before = λ other (k, within, at) better. behind after (slice_index xs k)
        (let up = rises_to k (length xs - 1) (omega arith) (omega arith) in omega (arith, up, last)) (low k within)
        (ap (λ y. prefers_after after y x) (get_or_default xs k 0 other within ∙ at) ∙ better);
  }
    where
      behind : (after : Option ℕ) (y : ℕ) → y ≤ x → IfSome after (λ u. y ≤ u) → prefers_after after y x ≡ true → ⊥
      behind None y le low better = omega (arith, ltb-true x y better, le)
      behind (Some u) y le low better = grind (arith, nat_tests)

  pub last_of : (after : Option ℕ) (o : Option ℕ) → o ≡ slice_get xs (length xs - 1) → ((k : ℕ) → k < length xs → IfSome after (λ u. slice_index xs k ≤ u))
      → MatchOption o (xs ≡ []) (IsMostPreferred (prefers_after after) xs)
  last_of after None e low = empty xs e
    where
      empty : (ys : List ℕ) → None ≡ slice_get ys (length ys - 1) → ys ≡ []
      empty [] e = refl
      empty (y ∷ ys) e = absurd (cc (e, slice_get-get_or (y ∷ ys) (length (y ∷ ys) - 1) 0 (omega arith)))
  last_of after (Some x) e low =
      let inside = slice_get_within xs (length xs - 1) x (sym e) in
      last_most after x low (omega (arith, inside)) (get_or_from_slice_get xs (length xs - 1) x 0 (sym e))

  -- the places up to the one that is kept stand in front
  pub low_front : (u : ℕ) → IsPartitionedBy (λ x. nat_le x u) xs
  low_front u i j d le within h =
      elim (cases_lt i j) [
        | inl less ↦ (let up = ltb-true _ _ (rises i j d less within) in let few = leb-true (get_or xs j d) u h in le-leb _ _ (omega (arith, up, few)))
        | inr same ↦ (let e : i ≡ j = omega arith in ap (λ k. nat_le (get_or xs k d) u) e ∙ h)
      ]

  -- else the first above it
  pub first_most : (u at x : ℕ) → ((k : ℕ) → k < at → slice_index xs k ≤ u) → at < length xs → slice_index xs at ≡ x → u < x → IsMostPreferred (prefers_after (Some u)) xs x
  first_most u at x low within is above = record {
    among = (at, within, get_or_default xs at x 0 within ∙ is);
    none_before = λ other (k, inside, here) better. elim (cases_lt k at) [
      | inl before ↦ (let le = low k before in below (slice_index xs k) le (ap (λ y. prefers_after (Some u) y x) (get_or_default xs k 0 other inside ∙ here) ∙ better))
      | inr reached ↦ (let le = rises_to at k (omega arith) inside in more (slice_index xs k) (omega (arith, le, is)) (ap (λ y. prefers_after (Some u) y x) (get_or_default xs k 0 other inside ∙ here) ∙ better))
    ];
  }
    where
      below : (y : ℕ) → y ≤ u → prefers_after (Some u) y x ≡ true → ⊥
      below y le better = grind (arith, nat_tests)

      more : (y : ℕ) → x ≤ y → prefers_after (Some u) y x ≡ true → ⊥
      more y le better = grind (arith, nat_tests)
