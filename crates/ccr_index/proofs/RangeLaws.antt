-- Where the places that are kept, and those of a scope, stand.
use Rattle.std.proofs.Common.{◌≡◌, ℕ, ◌<◌, ◌≤◌, inl, inr, List, length, get_or, slice_index, true, false, ◌||◌, ◌&&◌, ◌==◌, nat_lt, nat_le, refl, sym, ap, ◌∙◌, arith, Some, None}
use Rattle.std.specs.List.Sorted.{IsPartitionedBy, IsPartitionPoint}
use Rattle.std.proofs.lemmas.Bool.{cases_lt, ltb-true, leb-true, leb-false, le-leb}
use Rattle.std.proofs.lemmas.Bool.Decides.{nat_tests}
use Rattle.ccr_choice.specs.Ascending.{AreAscending, AreRising, is_up_to}
use Rattle.ccr_choice.proofs.Lookups.{before_is}
use Rattle.ccr_index.specs.Ranks.{AreRankedIn, AreRankedOf}
use Rattle.ccr_choice.proofs.Scopes.{scope_above, scope_below}

-- ---- pairs
place_above : (u scope : ℕ) (q : ℕ × ℕ) → is_up_to (Some u) scope q ≡ false → q.0 ≡ scope → u < q.1
place_above u scope q h e = numbers q.0 q.1 h e
  where
    numbers : (a b : ℕ) → (nat_lt a scope || (a == scope && nat_le b u)) ≡ false → a ≡ scope → u < b
    numbers a b h e = grind (arith, nat_tests)

place_below : (u scope : ℕ) (q : ℕ × ℕ) → is_up_to (Some u) scope q ≡ true → q.0 ≡ scope → q.1 ≤ u
place_below u scope q h e = numbers q.0 q.1 h e
  where
    numbers : (a b : ℕ) → (nat_lt a scope || (a == scope && nat_le b u)) ≡ true → a ≡ scope → b ≤ u
    numbers a b h e = grind (arith, nat_tests)

module _ (xs : List (ℕ × ℕ)) (rises : AreAscending xs) (scope to : ℕ) (fits : to ≤ length xs)
    (point : IsPartitionPoint (λ q. nat_le q.0 scope ≡ true) (λ q. nat_le q.0 scope ≡ false) xs to) where
  low : (m : ℕ) → m < to → (get_or xs m (0, 0)).0 ≤ scope
  low m less = leb-true _ _ (point.0 m (0, 0) (omega arith) less)

  rising : (m n : ℕ) → m < n → n < to → (get_or xs m (0, 0)).0 ≡ scope → (get_or xs m (0, 0)).1 < (get_or xs n (0, 0)).1
  rising m n less within counts =
      let high = low n within in
      elim (before_is (get_or xs m (0, 0)) (get_or xs n (0, 0)) (rises m n (0, 0) less (omega (arith, within, fits)))) [
        | inl more ↦ absurd (omega (arith, more, high, counts))
        | inr both ↦ both.1
      ]

  last : (m n : ℕ) → m < n → n < to → (get_or xs m (0, 0)).0 ≡ scope → (get_or xs n (0, 0)).0 ≡ scope
  last m n less within counts =
      let high = low n within in
      elim (before_is (get_or xs m (0, 0)) (get_or xs n (0, 0)) (rises m n (0, 0) less (omega (arith, within, fits)))) [
        | inl more ↦ absurd (omega (arith, more, high, counts))
        | inr both ↦ sym both.0 ∙ counts
      ]

  none_behind : (m : ℕ) → m < length xs → (get_or xs m (0, 0)).0 ≡ scope → m < to
  none_behind m within counts =
      elim (cases_lt m to) [
        | inl less ↦ less
        | inr le ↦ (let past = leb-false _ _ (point.1 m (0, 0) le within) in absurd (omega (arith, past, counts)))
      ]

  pub ranked_none : AreRankedIn None xs scope to to
  ranked_none = record {
    within = fits;
    none_behind = none_behind;
    ranks = record { split = omega arith; rising = rising; last = last; all_above = λ m le less. absurd (omega (arith, le, less)); kept = refl };
  }

  pub ranked_some : (u above : ℕ) → above ≤ length xs → IsPartitionPoint (λ q. is_up_to (Some u) scope q ≡ true) (λ q. is_up_to (Some u) scope q ≡ false) xs above
      → AreRankedIn (Some u) xs scope above to
  ranked_some u above room middle = record { within = fits; none_behind = none_behind; ranks = record { split = split; rising = rising; last = last; all_above = all_above; kept = (high, deep) } }
    where
      split : above ≤ to
      split = elim (cases_lt to above) [
        | inl less ↦ (let up = scope_below (Some u) scope (get_or xs to (0, 0)) (middle.0 to (0, 0) (omega arith) less) in
            let past = leb-false _ _ (point.1 to (0, 0) (omega arith) (omega (arith, less, room))) in absurd (omega (arith, up, past)))
        | inr le ↦ le
      ]

      all_above : (m : ℕ) → above ≤ m → m < to → (get_or xs m (0, 0)).0 ≡ scope
      all_above m le less =
          let up = scope_above (Some u) scope (get_or xs m (0, 0)) (middle.1 m (0, 0) le (omega (arith, less, fits))) in
          omega (arith, up, low m less)

      high : (m : ℕ) → above ≤ m → m < to → u < (get_or xs m (0, 0)).1
      high m le less = place_above u scope (get_or xs m (0, 0)) (middle.1 m (0, 0) le (omega (arith, less, fits))) (all_above m le less)

      deep : (m : ℕ) → m < above → (get_or xs m (0, 0)).0 ≡ scope → (get_or xs m (0, 0)).1 ≤ u
      deep m less counts = place_below u scope (get_or xs m (0, 0)) (middle.0 m (0, 0) (omega arith) less) counts

-- ---- places
-- the places up to one stand in front
pub up_to_front : (xs : List ℕ) → AreRising xs → (u : ℕ) → IsPartitionedBy (λ x. nat_le x u) xs
up_to_front xs rises u i j d le within h =
    elim (cases_lt i j) [
      | inl less ↦ (let more = ltb-true _ _ (rises i j d less within) in let few = leb-true _ _ h in le-leb _ _ (omega (arith, more, few)))
      | inr same ↦ (let e : i ≡ j = omega arith in ap (λ k. nat_le (get_or xs k d) u) e ∙ h)
    ]

module _ (xs : List ℕ) (rises : AreRising xs) where
  up : (m n : ℕ) → m < n → n < length xs → m < length xs → slice_index xs m < slice_index xs n
  up m n less within inside = ltb-true _ _ (rises m n 0 less within)

  pub ranked_all : AreRankedOf None xs (length xs) (length xs)
  ranked_all = (refl, record { split = omega arith; rising = up; last = λ m n less within counts. within; all_above = λ m le less. absurd (omega (arith, le, less)); kept = refl })

  pub ranked_after : (u above : ℕ) → above ≤ length xs → IsPartitionPoint (λ x. nat_le x u ≡ true) (λ x. nat_le x u ≡ false) xs above → AreRankedOf (Some u) xs above (length xs)
  ranked_after u above room middle = (
    refl,
    record {
      split = room;
      rising = up;
      last = λ m n less within counts. within;
      all_above = λ m le less. less;
      kept = (λ m le less. leb-false _ _ (middle.1 m 0 le less), λ m less counts. leb-true _ _ (middle.0 m 0 (omega arith) less));
    },
  )
