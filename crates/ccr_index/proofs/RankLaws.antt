-- Positions by rank: the more preferred place stands first.
use Rattle.std.proofs.Common.{◌≡◌, ℕ, ◌+◌, ◌-◌, ◌<◌, ◌≤◌, ◌⊎◌, inl, inr, List, [], ◌∷◌, slice_index_or, true, nat_lt, sym, ap, ◌∙◌, subst, arith, Option, Some, None}
use Rattle.std.specs.Prelude.{Contains}
use Rattle.std.proofs.lemmas.Bool.{cases_lt, lt-ltb, le-ltb, cond-true, cond-false, false≢true}
use Rattle.std.proofs.lemmas.Bool.Decides.{nat_tests}
use Rattle.std.proofs.lemmas.List.{get_or_default}
use Rattle.ccr_index.specs.Ranks.{ranked, AreRanked, AreRankedIn}
use Rattle.ccr_choice.specs.Problem.{ProblemValue}
use Rattle.ccr_choice.specs.Preference.{prefers_after, order_of}
use Rattle.ccr_choice.proofs.Orders.{is_order, behind as not_before}

-- ---- the order
ascending : (u x y : ℕ) → u < x → x < y → prefers_after (Some u) x y ≡ true
ascending u x y h k = grind (arith, nat_tests)

across : (u x y : ℕ) → u < x → y ≤ u → prefers_after (Some u) x y ≡ true
across u x y h k = grind (arith, nat_tests)

descending : (u x y : ℕ) → x ≤ u → y < x → prefers_after (Some u) x y ≡ true
descending u x y h k = grind (arith, nat_tests)

-- a problem of one input, for which this place is kept
abbrev alone : Option ℕ → ProblemValue
alone after = record { inputs = record { scope = 0; places = []; jobs = []; after = after } ∷ []; jobs = [] }

no_self : (after : Option ℕ) (x : ℕ) → prefers_after after x x ≡ true → ⊥
no_self after x h = false≢true (sym ((is_order (alone after)).irreflexive 0 x) ∙ h)

chained : (after : Option ℕ) (x y z : ℕ) → prefers_after after x y ≡ true → prefers_after after y z ≡ true → prefers_after after x z ≡ true
chained after x y z h k = (is_order (alone after)).transitive 0 x y z h k

-- ---- positions
ranked_low : (above to r : ℕ) → r < to - above → ranked above to r ≡ above + r
ranked_low above to r h = cond-true (nat_lt r (to - above)) (above + r) (to - 1 - r) (lt-ltb r (to - above) h)

ranked_high : (above to r : ℕ) → to - above ≤ r → ranked above to r ≡ to - 1 - r
ranked_high above to r h = cond-false (nat_lt r (to - above)) (above + r) (to - 1 - r) (le-ltb r (to - above) h)

pub ranked_below : (above to r : ℕ) → above ≤ to → r < to → ranked above to r < to
ranked_below above to r le h =
    elim (cases_lt r (to - above)) [
      | inl low ↦ omega (arith, ranked_low above to r low)
      | inr high ↦ omega (arith, ranked_high above to r high)
    ]

-- each position has its rank
rank_of : (above to m : ℕ) → above ≤ to → m < to → (r : ℕ) × (r < to) × (ranked above to r ≡ m)
rank_of above to m le h =
    elim (cases_lt m above) [
      | inl low ↦ (to - 1 - m, omega arith, (let e = ranked_high above to (to - 1 - m) (omega arith) in omega (arith, e)))
      | inr high ↦ (m - above, omega arith, (let e = ranked_low above to (m - above) (omega arith) in omega (arith, e)))
    ]

-- the one position is looked at before the other
abbrev IsAhead : ℕ → ℕ → ℕ → Type 0
IsAhead above m n = ((above ≤ m) × ((n < above) ⊎ (m < n))) ⊎ ((m < above) × (n < m))

ahead : (above to r s : ℕ) → above ≤ to → r < s → s < to → IsAhead above (ranked above to r) (ranked above to s)
ahead above to r s le less within =
    elim (cases_lt r (to - above)) [
      | inl low ↦ (let e = ranked_low above to r low in
          elim (cases_lt s (to - above)) [
            | inl low' ↦ (let f = ranked_low above to s low' in inl (omega (arith, e), inr (omega (arith, e, f))))
            | inr high ↦ (let f = ranked_high above to s high in inl (omega (arith, e), inl (omega (arith, f))))
          ])
      | inr high ↦ (let e = ranked_high above to r high in let f = ranked_high above to s (omega arith) in inr (omega (arith, e), omega (arith, e, f)))
    ]

-- ---- a walk by ranks
module _ (place_at : ℕ → ℕ) (Counts : ℕ → Type 0) (above to : ℕ) where
  -- its place is preferred
  before : (after : Option ℕ) → AreRanked after place_at Counts above to → (m n : ℕ) → m < to → n < to → Counts m → Counts n → IsAhead above m n
      → prefers_after after (place_at m) (place_at n) ≡ true
  before None is m n in_m in_n has has' (inl ahead) = absurd (let all : above ≡ to = is.kept in omega (arith, all, in_m, ahead.0))
  before None is m n in_m in_n has has' (inr ahead) = lt-ltb _ _ (is.rising n m ahead.1 in_m has')
  before (Some u) is m n in_m in_n has has' (inl ahead) =
      let high = is.kept.0 m ahead.0 in_m in
      elim ahead.1 [
        | inl below ↦ across u (place_at m) (place_at n) high (is.kept.1 n below has')
        | inr more ↦ ascending u (place_at m) (place_at n) high (is.rising m n more in_n has)
      ]
  before (Some u) is m n in_m in_n has has' (inr ahead) = descending u (place_at m) (place_at n) (is.kept.1 m ahead.0 has) (is.rising n m ahead.1 in_m has')

  module _ (after : Option ℕ) (is : AreRanked after place_at Counts above to) (P : ℕ → Type 0) where
    -- a place that counts
    pub record IsAt (q : ℕ) : Type 0 where
      pub position : ℕ
      pub within : position < to
      pub counts : Counts position
      pub here : place_at position ≡ q

    -- none of the first r places has the property
    pub AreWithout : ℕ → Type 0
    AreWithout r = (s : ℕ) → s < r → Counts (ranked above to s) → P (place_at (ranked above to s)) → ⊥

    -- a place with the property stands behind
    behind : (r : ℕ) → ((s : ℕ) → s < r → Counts (ranked above to s) → P (place_at (ranked above to s)) → ⊥) → (q : ℕ) → P q → (at : IsAt q)
        → (s : ℕ) × (r ≤ s) × (s < to) × Counts (ranked above to s) × (place_at (ranked above to s) ≡ q)
    behind r none q h at =
        let found = rank_of above to at.position is.split at.within in
        let s = found.0 in
        let counts : Counts (ranked above to s) = subst Counts (sym found.2) at.counts in
        let here : place_at (ranked above to s) ≡ q = ap place_at found.2 ∙ at.here in
        elim (cases_lt s r) [
          | inl early ↦ absurd (none s early counts (subst P (sym here) h))
          | inr late ↦ (s, late, found.1, counts, here)
        ]

    -- at the end there is none
    pub none_left : (r : ℕ) → ((s : ℕ) → s < r → Counts (ranked above to s) → P (place_at (ranked above to s)) → ⊥) → to ≤ r → (q : ℕ) → P q → IsAt q → ⊥
    none_left r none all q h at = let s = behind r none q h at in let late = s.1 in let within = s.2 in omega (arith, all, late, within)

    -- nor where the positions that count end
    pub none_counts : (r : ℕ) → ((s : ℕ) → s < r → Counts (ranked above to s) → P (place_at (ranked above to s)) → ⊥) → r < to → (Counts (ranked above to r) → ⊥) → (q : ℕ) → P q → IsAt q → ⊥
    none_counts r none within lacks q h at =
        let s = behind r none q h at in
        let here = ranked_below above to r is.split within in
        let there = ranked_below above to s.0 is.split s.2 in
        elim (cases_lt r s.0) [
          | inl late ↦ elim (ahead above to r s.0 is.split late s.2) [
            | inl first ↦ lacks (is.all_above (ranked above to r) first.0 here)
            | inr first ↦ lacks (is.last (ranked above to s.0) (ranked above to r) first.1 here s.3)
          ]
          | inr le ↦ (let now : s.0 ≡ r = (let late = s.1 in omega (arith, le, late)) in
              let R : ℕ → Type 0 = λ n. Counts (ranked above to n) in lacks (subst R now s.3))
        ]

    -- to one that counts none with the property is preferred
    pub none_preferred : (r : ℕ) → ((s : ℕ) → s < r → Counts (ranked above to s) → P (place_at (ranked above to s)) → ⊥) → r < to → Counts (ranked above to r) → (q : ℕ) → P q → IsAt q
        → prefers_after after q (place_at (ranked above to r)) ≡ true → ⊥
    none_preferred r none within counts q h at better =
        let s = behind r none q h at in
        let x = place_at (ranked above to r) in
        elim (cases_lt r s.0) [
          | inl late ↦ (let first = before after is (ranked above to r) (ranked above to s.0) (ranked_below above to r is.split within) (ranked_below above to s.0 is.split s.2) counts s.3 (ahead above to r s.0 is.split late s.2) in
              no_self after x (chained after x q x (ap (prefers_after after x) (sym s.4) ∙ first) better))
          | inr le ↦ (let now : r ≡ s.0 = (let late = s.1 in omega (arith, le, late)) in
              let same : x ≡ q = ap (λ n. place_at (ranked above to n)) now ∙ s.4 in
              no_self after x (ap (λ n. prefers_after after n x) same ∙ better))
        ]

-- ---- a walk over the pairs of a scope
module _ (after : Option ℕ) (xs : List (ℕ × ℕ)) (scope above to : ℕ) (is : AreRankedIn after xs scope above to) (P : ℕ → Type 0) where
  abbrev place_of : ℕ → ℕ
  place_of m = (slice_index_or xs m (0, 0)).1

  abbrev InScope : ℕ → Type 0
  InScope m = (slice_index_or xs m (0, 0)).0 ≡ scope

  -- none of the first r pairs of the scope has the property
  abbrev pub PairsLack : ℕ → Type 0
  PairsLack r = (s : ℕ) → s < r → (slice_index_or xs (ranked above to s) (0, 0)).0 ≡ scope → P (slice_index_or xs (ranked above to s) (0, 0)).1 → ⊥

  at_pair : (q : ℕ) → Contains xs (scope, q) → IsAt place_of InScope above to after is.ranks P q
  at_pair q (k, within, here) =
      let same : slice_index_or xs k (0, 0) ≡ (scope, q) = get_or_default xs k (0, 0) (scope, q) within ∙ here in
      let counts : InScope k = ap (λ (y : ℕ × ℕ). y.0) same in
      record { position = k; within = is.none_behind k within counts; counts = counts; here = ap (λ (y : ℕ × ℕ). y.1) same }

  pub pairs_next : (r k : ℕ) → k ≡ ranked above to r → PairsLack r → ((slice_index_or xs k (0, 0)).0 ≡ scope → P (slice_index_or xs k (0, 0)).1 → ⊥) → PairsLack (r + 1)
  pairs_next r k e none lacks s less counts h =
      elim (cases_lt s r) [
        | inl early ↦ none s early counts h
        | inr late ↦ (let now : s ≡ r = omega (arith, late, less) in
            let at : ranked above to s ≡ k = ap (ranked above to) now ∙ sym e in
            let C : ℕ → Type 0 = λ m. InScope m in
            let Q : ℕ → Type 0 = λ m. P (place_of m) in
            lacks (subst C at counts) (subst Q at h))
      ]

  -- at the end there is none
  pub pairs_done : (r : ℕ) → PairsLack r → to ≤ r → (q : ℕ) → P q → Contains xs (scope, q) → ⊥
  pairs_done r none all q h has = none_left place_of InScope above to after is.ranks P r none all q h (at_pair q has)

  module _ (r k : ℕ) (none : PairsLack r) (within : r < to) (e : k ≡ ranked above to r) where
    -- nor where another scope begins
    pub pairs_past : ((slice_index_or xs k (0, 0)).0 ≡ scope → ⊥) → (q : ℕ) → P q → Contains xs (scope, q) → ⊥
    pairs_past lacks q h has =
        let C : ℕ → Type 0 = λ m. InScope m in
        none_counts place_of InScope above to after is.ranks P r none within (λ c. lacks (subst C (sym e) c)) q h (at_pair q has)

    -- no such place is preferred to the one here
    pub pairs_first : (slice_index_or xs k (0, 0)).0 ≡ scope → (q : ℕ) → P q → Contains xs (scope, q) → prefers_after after q (slice_index_or xs k (0, 0)).1 ≡ true → ⊥
    pairs_first counts q h has better =
        let C : ℕ → Type 0 = λ m. InScope m in
        none_preferred place_of InScope above to after is.ranks P r none within (subst C e counts) q h (at_pair q has) (ap (λ m. prefers_after after q (place_of m)) (sym e) ∙ better)

    -- nor to one to which this isn't
    pub pairs_low : (top : ℕ) → (slice_index_or xs k (0, 0)).0 ≡ scope → (prefers_after after (slice_index_or xs k (0, 0)).1 top ≡ true → ⊥)
        → (q : ℕ) → P q → Contains xs (scope, q) → prefers_after after q top ≡ true → ⊥
    pairs_low top counts low q h has better =
        not_before (order_of (alone after)) (is_order (alone after)) 0 q (place_of k) top (λ b. pairs_first counts q h has b) low better
