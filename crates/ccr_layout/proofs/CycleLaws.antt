-- Walking back far enough ends on a cycle.
use Rattle.std.proofs.Common.{◌≡◌, ◌≢◌, ℕ, zero, suc, ◌+◌, ◌-◌, ◌<◌, ◌≤◌, ◌⊎◌, Bool, true, false, List, [], ◌∷◌, length, get_or, find, cond, ltb, inl, inr, refl, sym, ap, ◌∙◌, subst, arith}
use Rattle.std.specs.Prelude.{Contains, Some, unwrap_or}
use Rattle.std.specs.declared.vec.Vec.{Vec}
use Rattle.std.proofs.lemmas.Bool.{cases_lt, cases_eq, cases_Bool, false≢true, cond-true, cond-false, lt-ltb, le-ltb, not_from_true, not_from_false}
use Rattle.std.proofs.lemmas.List.{get_or_past}
use Rattle.ccr_layout.specs.Layers.{named_in, LeadsBack, IsNamedBack}
use Rattle.ccr_layout.specs.Turns.{is_left, step_back, steps_back, NoneIsReady, CanBeNext}

-- ---- two of many places hold the same
-- two different numbers, neither greater than the last, that a function takes to the same
pub record Twice (f : ℕ → ℕ) (last : ℕ) : Type 0 where
  pub first : ℕ
  pub later : ℕ
  pub order : first < later
  pub within : later ≤ last
  pub same : f first ≡ f later

-- a function's value at the last is found before it, or it isn't
found_before : (f : ℕ → ℕ) (x n : ℕ) → ((i : ℕ) × (i < n) × (f i ≡ x)) ⊎ ((i : ℕ) → i < n → f i ≢ x)
found_before f x zero = inr (λ i less. absurd (omega (arith, less)))
found_before f x (suc n) =
    elim (cases_eq (f n) x) [
      | inl same ↦ inl (n, omega arith, same)
      | inr differ ↦ elim (found_before f x n) [
        | inl at ↦ inl (at.0, omega (arith, at.1), at.2)
        | inr none ↦ inr (λ i less. elim (cases_lt i n) [
          | inl inside ↦ none i inside
          | inr past ↦ (let e : i ≡ n = omega (arith, past, less) in λ s. differ (sym (ap f e) ∙ s))
        ])
      ]
    ]

-- the numbers without one of them, closed up
abbrev without : ℕ → ℕ → ℕ
without x y = cond (ltb y x) y (y - 1)

without_low : (x y n : ℕ) → y < suc n → x < suc n → y ≢ x → without x y < n
without_low x y n low high differ =
    elim (cases_lt y x) [
      | inl below ↦ omega (arith, cond-true (ltb y x) y (y - 1) (lt-ltb y x below), below, high)
      | inr past ↦ omega (arith, cond-false (ltb y x) y (y - 1) (le-ltb y x past), past, low, differ)
    ]

without_same : (x y z : ℕ) → y ≢ x → z ≢ x → without x y ≡ without x z → y ≡ z
without_same x y z dy dz e =
    elim (cases_lt y x) [
      | inl yb ↦ elim (cases_lt z x) [
        | inl zb ↦ omega (arith, e, cond-true (ltb y x) y (y - 1) (lt-ltb y x yb), cond-true (ltb z x) z (z - 1) (lt-ltb z x zb))
        | inr zp ↦ omega (arith, e, cond-true (ltb y x) y (y - 1) (lt-ltb y x yb), cond-false (ltb z x) z (z - 1) (le-ltb z x zp), yb, zp, dz)
      ]
      | inr yp ↦ elim (cases_lt z x) [
        | inl zb ↦ omega (arith, e, cond-false (ltb y x) y (y - 1) (le-ltb y x yp), cond-true (ltb z x) z (z - 1) (lt-ltb z x zb), yp, zb, dy)
        | inr zp ↦ omega (arith, e, cond-false (ltb y x) y (y - 1) (le-ltb y x yp), cond-false (ltb z x) z (z - 1) (le-ltb z x zp), yp, zp, dy, dz)
      ]
    ]

-- of one more numbers than there are values, two have the same
pub twice : (n : ℕ) (f : ℕ → ℕ) → ((i : ℕ) → i ≤ n → f i < n) → Twice f n
twice zero f low = absurd (omega (arith, low 0 (omega arith)))
twice (suc n) f low =
    elim (found_before f (f (suc n)) (suc n)) [
      | inl at ↦ record { first = at.0; later = suc n; order = at.1; within = omega arith; same = at.2 }
      | inr none ↦ (let x = f (suc n) in
          let g : ℕ → ℕ = λ i. without x (f i) in
          let differ : (i : ℕ) → i ≤ n → f i ≢ x = λ i less. none i (omega (arith, less)) in
          let t : Twice g n = twice n g (λ i less. without_low x (f i) n (low i (omega (arith, less))) (low (suc n) (omega arith)) (differ i less)) in
          record {
            first = t.first;
            later = t.later;
            order = t.order;
            within = omega (arith, t.within);
            same = without_same x (f t.first) (f t.later) (differ t.first (omega (arith, t.order, t.within))) (differ t.later t.within) t.same;
          })
    ]

-- ---- steps back
module _ {A : Type 0} (named : List (Vec ℕ A)) (done : List Bool) (none : NoneIsReady named done) (long : length done ≡ length named) where
  steps_first : (n node : ℕ) → steps_back named done n (step_back named done node) ≡ steps_back named done (suc n) node
  steps_first zero node = refl
  steps_first (suc n) node = ap (step_back named done) (steps_first n node)

  steps_add : (m n node : ℕ) → steps_back named done (m + n) node ≡ steps_back named done m (steps_back named done n node)
  steps_add zero n node = let e : 0 + n ≡ n = omega arith in ap (λ k. steps_back named done k node) e
  steps_add (suc m) n node =
      let e : suc m + n ≡ suc (m + n) = omega arith in
      ap (λ k. steps_back named done k node) e ∙ ap (step_back named done) (steps_add m n node)

  -- a node that isn't done is a node
  inside : (t : ℕ) → get_or done t true ≡ false → t < length named
  inside t left =
      elim (cases_lt t (length done)) [
        | inl within ↦ omega (arith, within, long)
        | inr past ↦ absurd (false≢true (sym left ∙ get_or_past done t true past))
      ]

  -- the first that isn't done of some among which there is one
  first_of_list : (xs : List ℕ) (s d : ℕ) → Contains xs s → get_or done s true ≡ false
      → Contains xs (unwrap_or (find (λ k. is_left done k) xs) d) × (get_or done (unwrap_or (find (λ k. is_left done k) xs) d) true ≡ false)
  first_of_list [] s d has left = absurd (omega (arith, has.1))
  first_of_list (x ∷ xs) s d has left =
      elim (cases_Bool (get_or done x true)) [
        | inr first ↦ (let e = cond-true (is_left done x) (Some x) (find (λ k. is_left done k) xs) (not_from_false (get_or done x true) first) in
            let f = ap (λ o. unwrap_or o d) e in
            let P : ℕ → Type 0 = λ k. Contains (x ∷ xs) k × (get_or done k true ≡ false) in
            subst P (sym f) ((0, omega arith, refl), first))
        | inl is ↦ (let e = cond-false (is_left done x) (Some x) (find (λ k. is_left done k) xs) (not_from_true (get_or done x true) is) in
            let f = ap (λ o. unwrap_or o d) e in
            let P : ℕ → Type 0 = λ k. Contains (x ∷ xs) k × (get_or done k true ≡ false) in
            let h = first_of_list xs s d (later_of x xs s has.0 has.1 has.2 (λ same. false≢true (sym left ∙ ap (λ k. get_or done k true) (sym same) ∙ is))) left in
            subst P (sym f) ((suc h.0.0, omega (arith, h.0.1), h.0.2), h.1))
      ]
    where
      later_of : (x : ℕ) (xs : List ℕ) (s k : ℕ) → k < length (x ∷ xs) → get_or (x ∷ xs) k s ≡ s → x ≢ s → Contains xs s
      later_of x xs s zero less at differ = absurd (differ at)
      later_of x xs s (suc k) less at differ = (k, omega (arith, less), at)

  step_left : (t : ℕ) → get_or done t true ≡ false → Contains (named_in named t) (step_back named done t) × (get_or done (step_back named done t) true ≡ false)
  step_left t left = let s = none t (inside t left) left in first_of_list (named_in named t) s.0 t s.1.0 s.1.1

  steps_left : (n t : ℕ) → get_or done t true ≡ false → get_or done (steps_back named done n t) true ≡ false
  steps_left zero t left = left
  steps_left (suc n) t left = (step_left (steps_back named done n t) (steps_left n t left)).1

  leads : (n t : ℕ) → get_or done t true ≡ false → LeadsBack named n t (steps_back named done n t)
  leads zero t left = refl
  leads (suc n) t left =
      let s = step_left t left in
      let P : ℕ → Type 0 = λ k. LeadsBack named n (step_back named done t) k in
      (step_back named done t, (s.0, subst P (steps_first n t) (leads n (step_back named done t) s.1)))

  -- as many steps as there are nodes end on a cycle
  pub on_cycle : (t : ℕ) → get_or done t true ≡ false → IsNamedBack named (steps_back named done (length named) t)
  on_cycle t left =
      let n = length named in
      let at : ℕ → ℕ = λ k. steps_back named done k t in
      let again : Twice at n = twice n at (λ i less. inside (at i) (steps_left i t left)) in
      let i = again.first in
      let j = again.later in
      let round = j - i in
      let rest = n - j in
      let e1 : rest + j ≡ n = omega (arith, again.within) in
      let e2 : round + i ≡ j = omega (arith, again.order) in
      let e3 : round + rest ≡ rest + round = omega arith in
      let last : at n ≡ steps_back named done rest (at i) = ap at (sym e1) ∙ steps_add rest j t ∙ ap (steps_back named done rest) (sym again.same) in
      let back : steps_back named done round (at i) ≡ at i = sym (steps_add round i t) ∙ ap at e2 ∙ sym again.same in
      let circle : steps_back named done round (at n) ≡ at n =
      ap (steps_back named done round) last ∙ sym (steps_add round rest (at i)) ∙ ap (λ k. steps_back named done k (at i)) e3 ∙ steps_add rest round (at i)
      ∙ ap (steps_back named done rest) back ∙ sym last in
      let e4 : suc (round - 1) ≡ round = omega (arith, again.order) in
      let P : ℕ → Type 0 = λ k. LeadsBack named k (at n) (at n) in
      let Q : ℕ → Type 0 = λ k. LeadsBack named round (at n) k in
      (round - 1, subst P (sym e4) (subst Q circle (leads round (at n) (steps_left n t left))))

  -- it can be next
  pub can_be_next : (t r : ℕ) → get_or done t true ≡ false → r ≡ steps_back named done (length named) t → CanBeNext named done r
  can_be_next t r left e =
      let P : ℕ → Type 0 = λ k. CanBeNext named done k in
      let left' = steps_left (length named) t left in
      subst P (sym e) (record { within = inside (steps_back named done (length named) t) left'; left = left'; ready = inr (on_cycle t left) })
