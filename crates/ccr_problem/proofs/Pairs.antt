-- The pairs that passed, cut to some scopes, ascend.
use Rattle.std.proofs.Common.{◌≡◌, ℕ, suc, ◌+◌, ◌-◌, ◌<◌, ◌≤◌, List, [], ◌∷◌, ◌++◌, length, map, Bool, true, false, ◌&&◌, ◌==◌, cond, inl, inr, refl, arith, IsTrue}
use Rattle.std.specs.Prelude.{◌⊎◌, filter, AllPairs, nat_lt, nat_le, slice_index_or}
use Rattle.std.specs.List.{AllByRecursion, enumerate_from, flat_map}
use Rattle.std.proofs.lemmas.Bool.{and_from, and_parts, or_cases, or_left, or_right, lt-ltb, le-leb, ltb-true, leb-true, eqb-true, eq-eqb}
use Rattle.ccr_history.specs.Builds.{is_before}
use Rattle.ccr_history.specs.History.{IsTable, places_at, has_place}
use Rattle.ccr_history.specs.Tables.{TableData}
use Rattle.ccr_choice.specs.Problem.{are_places_after, are_pairs_after}
use Rattle.ccr_problem.specs.Passed.{places_in, cut_to}

-- ---- pairs that ascend
-- each pair stands before the later ones
abbrev pub AreRising : List (ℕ × ℕ) → Type 0
AreRising [] = Unit {0}
AreRising (q ∷ qs) = AllByRecursion (λ r. is_before q r ≡ true) qs × AreRising qs

before_each : (q : ℕ × ℕ) (qs : List (ℕ × ℕ)) → ((k : ℕ) (d : ℕ × ℕ) → k < length qs → is_before q (slice_index_or qs k d) ≡ true) → AllByRecursion (λ r. is_before q r ≡ true) qs
before_each q [] h = tt
before_each q (r ∷ qs) h = (h 0 r (omega arith), before_each q qs (λ k d within. h (suc k) d (omega arith)))

pub rising : (qs : List (ℕ × ℕ)) → AllPairs (λ p q. IsTrue (is_before p q)) qs → AreRising qs
rising [] h = tt
rising (q ∷ qs) h = (
  before_each q qs (λ k d within. h 0 (suc k) d (omega arith) (omega arith)),
  rising qs (λ i j d less within. h (suc i) (suc j) d (omega arith) (omega arith)),
)

-- a place that a table has
abbrev pub IsPlaced : ℕ × ℕ → Type 0
IsPlaced q = (0 < q.1) × (q.1 ≤ 100000)

places_by : (b : Bool) (n m : ℕ) → n ≤ 100000 → m ≤ 100000 → cond b n m ≤ 100000
places_by true n m few more = few
places_by false n m few more = more

pub few_places : (ts : List TableData) (n : ℕ) → AllByRecursion IsTable ts → places_at ts n ≤ 100000
few_places [] n each = omega arith
few_places (t ∷ ts) n each = places_by (n == 1) (length t.versions) (places_at ts (n - 1)) each.0.1 (few_places ts (n - 1) each.1)

pub placed : (ts : List TableData) (qs : List (ℕ × ℕ)) → AllByRecursion IsTable ts → AllByRecursion (λ q. IsTrue (has_place ts q.0 q.1)) qs → AllByRecursion IsPlaced qs
placed ts [] each h = tt
placed ts (q ∷ qs) each (here, h) =
    let parts = and_parts (nat_lt 0 q.1) (nat_le q.1 (places_at ts q.0)) here in
    let few = few_places ts q.0 each in
    let low : 0 < q.1 = ltb-true _ _ parts.0 in
    let high : q.1 ≤ places_at ts q.0 = leb-true _ _ parts.1 in
    ((low, omega arith), placed ts qs each h)

-- ---- the places of one scope
-- what is left of a scope lies above a place
abbrev Above : ℕ → ℕ → List (ℕ × ℕ) → Type 0
Above scope low qs = AllByRecursion (λ r. r.0 ≡ scope → low < r.1) qs

later : (q r : ℕ × ℕ) (scope : ℕ) → q.0 ≡ scope → is_before q r ≡ true → r.0 ≡ scope → q.1 < r.1
later q r scope e b same =
    elim (or_cases (nat_lt q.0 r.0) (q.0 == r.0 && nat_lt q.1 r.1) b) [
      | inl less ↦ (let lt : q.0 < r.0 = ltb-true _ _ less in absurd (omega arith))
      | inr both ↦ ltb-true _ _ (and_parts (q.0 == r.0) (nat_lt q.1 r.1) both).1
    ]

above_now : (q : ℕ × ℕ) (scope : ℕ) (qs : List (ℕ × ℕ)) → q.0 ≡ scope → AllByRecursion (λ r. is_before q r ≡ true) qs → Above scope q.1 qs
above_now q scope [] e h = tt
above_now q scope (r ∷ qs) e (b, h) = (later q r scope e b, above_now q scope qs e h)

scope_by : (b : Bool) (q : ℕ × ℕ) (scope low : ℕ) (qs : List (ℕ × ℕ)) → (q.0 == scope) ≡ b → IsPlaced q → (q.0 ≡ scope → low < q.1)
    → (q.0 ≡ scope → are_places_after q.1 (places_in qs scope) ≡ true) → are_places_after low (places_in qs scope) ≡ true
    → are_places_after low (map (λ p. p.1) (cond b (q ∷ filter (λ p. p.0 == scope) qs) (filter (λ p. p.0 == scope) qs))) ≡ true
scope_by true q scope low qs e is above onward other =
    let here : q.0 ≡ scope = eqb-true _ _ e in
    and_from _ _ (lt-ltb _ _ (above here)) (and_from _ _ (le-leb _ _ is.1) (onward here))
scope_by false q scope low qs e is above onward other = other

scope_rises : (scope low : ℕ) (qs : List (ℕ × ℕ)) → AreRising qs → AllByRecursion IsPlaced qs → Above scope low qs → are_places_after low (places_in qs scope) ≡ true
scope_rises scope low [] up each above = refl
scope_rises scope low (q ∷ qs) (first, up) (is, each) (here, above) =
    scope_by (q.0 == scope) q scope low qs refl is here (λ e. scope_rises scope q.1 qs up each (above_now q scope qs e first)) (scope_rises scope low qs up each above)

above_none : (scope : ℕ) (qs : List (ℕ × ℕ)) → AllByRecursion IsPlaced qs → Above scope 0 qs
above_none scope [] each = tt
above_none scope (q ∷ qs) (is, each) = ((λ e. is.0), above_none scope qs each)

-- ---- scope by scope
-- the next pair's scope is a later one, or it is the same and its places are later
abbrev IsAhead : ℕ → ℕ → ℕ → List ℕ → Type 0
IsAhead s p k places = ((s < k) × (are_places_after 0 places ≡ true)) ⊎ ((s ≡ k) × (are_places_after p places ≡ true))

one_scope : (n k s p : ℕ) (places : List ℕ) (rest : List (ℕ × ℕ)) → k < n → IsAhead s p k places
    → ((t r : ℕ) → t ≤ k → are_pairs_after n t r rest ≡ true) → are_pairs_after n s p (map (λ place. (k, place)) places ++ rest) ≡ true
one_scope n k s p [] rest less (inl ahead) onward = onward s p (omega (arith, ahead.0))
one_scope n k s p [] rest less (inr ahead) onward = onward s p (omega (arith, ahead.0))
one_scope n k s p (x ∷ xs) rest less (inl ahead) onward =
    let parts = and_parts _ _ ahead.1 in
    let more = and_parts _ _ parts.1 in
    and_from _ _ (or_left _ _ (lt-ltb _ _ ahead.0))
    (and_from _ _ (lt-ltb _ _ less) (and_from _ _ parts.0 (and_from _ _ more.0 (one_scope n k k x xs rest less (inr (refl, more.1)) onward))))
one_scope n k s p (x ∷ xs) rest less (inr ahead) onward =
    let parts = and_parts _ _ ahead.1 in
    let more = and_parts _ _ parts.1 in
    let low : p < x = ltb-true _ _ parts.0 in
    and_from _ _ (or_right _ _ (and_from _ _ (eq-eqb _ _ ahead.0) parts.0))
    (and_from _ _ (lt-ltb _ _ less) (and_from _ _ (lt-ltb _ _ (omega arith)) (and_from _ _ more.0 (one_scope n k k x xs rest less (inr (refl, more.1)) onward))))

-- the pairs cut to scopes, the first of which is the k-th
abbrev pub cut_from : ℕ → List ℕ → List (ℕ × ℕ) → List (ℕ × ℕ)
cut_from k scopes pairs = flat_map (λ s. map (λ place. (s.0, place)) (places_in pairs s.1)) (enumerate_from k scopes)

module _ (n : ℕ) (pairs : List (ℕ × ℕ)) (up : AreRising pairs) (each : AllByRecursion IsPlaced pairs) where
  places_rise : (scope : ℕ) → are_places_after 0 (places_in pairs scope) ≡ true
  places_rise scope = scope_rises scope 0 pairs up each (above_none scope pairs each)

  scopes_rise : (k s p : ℕ) (scopes : List ℕ) → s < k → k + length scopes ≤ n → are_pairs_after n s p (cut_from k scopes pairs) ≡ true
  scopes_rise k s p [] above few = refl
  scopes_rise k s p (x ∷ xs) above few =
      one_scope n k s p (places_in pairs x) (cut_from (k + 1) xs pairs) (omega arith) (inl (above, places_rise x))
      (λ t r le. scopes_rise (k + 1) t r xs (omega arith) (omega arith))

  -- the pairs that passed, cut to so many scopes, keep the rules of a problem
  pub cut_rises : (scopes : List ℕ) → length scopes ≤ n → are_pairs_after n 0 0 (cut_to scopes pairs) ≡ true
  cut_rises [] few = refl
  cut_rises (x ∷ xs) few =
      one_scope n 0 0 0 (places_in pairs x) (cut_from 1 xs pairs) (omega arith) (inr (refl, places_rise x))
      (λ t r le. scopes_rise 1 t r xs (omega arith) (omega arith))
