-- The pairs of one scope, in a list of pairs that ascends.
use Rattle.std.proofs.Common.{◌≡◌, ℕ, ◌+◌, ◌<◌, ◌≤◌, inl, inr, List, length, get_or, sym, ap, ap₂, ◌∙◌, arith, Bool, IsTrue, ◌||◌, ◌&&◌, ◌==◌, nat_lt, nat_le, true, false, Option, Some, None}
use Rattle.std.specs.Prelude.{Contains, MatchOption}
use Rattle.std.specs.List.Sorted.{IsPartitionedBy, IsPartitionPoint}
use Rattle.std.proofs.lemmas.Bool.{cases_lt, leb-true, leb-false, le-leb, ltb-true, false≢true}
use Rattle.std.proofs.lemmas.Bool.Decides.{nat_tests}
use Rattle.std.proofs.lemmas.List.{get_or_default}
use Rattle.ccr_choice.specs.Ascending.{is_before, is_up_to, AreAscending}
use Rattle.ccr_choice.specs.Preference.{prefers_after}
use Rattle.ccr_choice.specs.Possible.{Reaches}
use Rattle.ccr_choice.proofs.Lookups.{before_is}

low : (p q : ℕ × ℕ) (scope : ℕ) → is_before p q ≡ true → nat_le q.0 scope ≡ true → nat_le p.0 scope ≡ true
low p q scope b h =
    let most = leb-true q.0 scope h in
    elim (before_is p q b) [ inl less ↦ le-leb _ _ (omega arith) | inr both ↦ (let e = both.0 in le-leb _ _ (omega arith)) ]

module _ (xs : List (ℕ × ℕ)) (rises : AreAscending xs) (scope : ℕ) where
  -- the pairs of scopes up to this one stand in front
  pub up_to : IsPartitionedBy (λ q. nat_le q.0 scope) xs
  up_to i j d le within h =
      elim (cases_lt i j) [
        | inl less ↦ low (get_or xs i d) (get_or xs j d) scope (rises i j d less within) h
        | inr same ↦ (let e : i ≡ j = omega arith in ap (λ k. nat_le (get_or xs k d).0 scope) e ∙ h)
      ]

  module _ (end : ℕ) (point : IsPartitionPoint (λ q. nat_le q.0 scope ≡ true) (λ q. nat_le q.0 scope ≡ false) xs end) where
    -- none of this scope stands behind
    pub none_behind : (place m : ℕ) → end ≤ m → m < length xs → get_or xs m (scope, place) ≡ (scope, place) → ⊥
    none_behind place m le within at =
        false≢true (sym (point.1 m (scope, place) le within) ∙ ap (λ q. nat_le q.0 scope) at ∙ le-leb scope scope (omega arith))

    -- and none of a later one in front
    pub no_later : (k : ℕ) (q : ℕ × ℕ) → k < end → q ≡ get_or xs k q → q.0 ≤ scope
    no_later k q less at = leb-true q.0 scope (ap (λ y. nat_le y.0 scope) at ∙ point.0 k q (omega arith) less)

  -- What holds of each place of this scope behind the k-th pair, of its own, and of those in front, holds of all.
  module _ (k : ℕ) (q : ℕ × ℕ) (inside : k < length xs) (at : q ≡ get_or xs k q) (P R : ℕ → Type 0)
      (behind : (place m : ℕ) → k + 1 ≤ m → m < length xs → get_or xs m (scope, place) ≡ (scope, place) → P place → ⊥)
      (here : (place : ℕ) → q ≡ (scope, place) → R place)
      (front : (place : ℕ) → is_before (scope, place) q ≡ true → R place) where
    pub all_places : (place : ℕ) → P place → Contains xs (scope, place) → R place
    all_places place h (m, within, same) =
        let is : get_or xs k (scope, place) ≡ q = get_or_default xs k (scope, place) q inside ∙ sym at in
        elim (cases_lt m k) [
          | inl before ↦ front place (sym (ap₂ is_before same is) ∙ rises m k (scope, place) before inside)
          | inr reached ↦ elim (cases_lt k m) [
            | inl beyond ↦ absurd (behind place m (omega arith) within same h)
            | inr not_beyond ↦ (let e : k ≡ m = omega arith in here place (sym is ∙ ap (λ n. get_or xs n (scope, place)) e ∙ same))
          ]
        ]

-- a pair of another scope that isn't later: no pair of this scope stands there or in front
pub other_scope : (scope : ℕ) (q : ℕ × ℕ) (place : ℕ) → q.0 ≤ scope → (q.0 ≡ scope → ⊥) → is_before (scope, place) q ≡ true → ⊥
other_scope scope q place low other b =
    elim (before_is (scope, place) q b) [ inl less ↦ other (omega arith) | inr both ↦ (let e = both.0 in other (omega arith)) ]

-- in the same scope, what stands in front has an earlier place
pub earlier : (scope : ℕ) (q : ℕ × ℕ) (place : ℕ) → q.0 ≡ scope → is_before (scope, place) q ≡ true → place < q.1
earlier scope q place same b =
    elim (before_is (scope, place) q b) [ inl less ↦ (let e = same in absurd (omega arith)) | inr both ↦ (let less = both.1 in omega arith) ]

-- what isn't preferred to the best so far is reached
pub reached_unless : (after : Option ℕ) (o : Option ℕ) (x : ℕ) (better : Bool) → MatchOption o (IsTrue better) (λ b. better ≡ prefers_after after x b) → better ≡ false → Reaches (prefers_after after) o x
reached_unless after None x better h e = absurd (false≢true (sym e ∙ h))
reached_unless after (Some y) x better h e = λ first. false≢true (sym e ∙ h ∙ first)

-- ---- up to the place that is kept, and above it
low_pair : (after : Option ℕ) (scope : ℕ) (p q : ℕ × ℕ) → is_before p q ≡ true → is_up_to after scope q ≡ true → is_up_to after scope p ≡ true
low_pair None scope p q b h = low p q scope b h
low_pair (Some u) scope p q b h = numbers p.0 p.1 q.0 q.1 b h
  where
    numbers : (a b c d : ℕ) → (nat_lt a c || (a == c && nat_lt b d)) ≡ true → (nat_lt c scope || (c == scope && nat_le d u)) ≡ true
        → (nat_lt a scope || (a == scope && nat_le b u)) ≡ true
    numbers a b c d h k = grind (arith, nat_tests)

-- the pairs up to the place that is kept stand in front
pub kept_front : (after : Option ℕ) (xs : List (ℕ × ℕ)) → AreAscending xs → (scope : ℕ) → IsPartitionedBy (λ q. is_up_to after scope q) xs
kept_front after xs rises scope i j d le within h =
    elim (cases_lt i j) [
      | inl less ↦ low_pair after scope (get_or xs i d) (get_or xs j d) (rises i j d less within) h
      | inr same ↦ (let e : i ≡ j = omega arith in ap (λ k. is_up_to after scope (get_or xs k d)) e ∙ h)
    ]

pub scope_above : (after : Option ℕ) (scope : ℕ) (q : ℕ × ℕ) → is_up_to after scope q ≡ false → scope ≤ q.0
scope_above None scope q h = omega (arith, leb-false q.0 scope h)
scope_above (Some u) scope q h = numbers q.0 q.1 h
  where
    numbers : (a b : ℕ) → (nat_lt a scope || (a == scope && nat_le b u)) ≡ false → scope ≤ a
    numbers a b h = grind (arith, nat_tests)

pub scope_below : (after : Option ℕ) (scope : ℕ) (q : ℕ × ℕ) → is_up_to after scope q ≡ true → q.0 ≤ scope
scope_below None scope q h = leb-true q.0 scope h
scope_below (Some u) scope q h = numbers q.0 q.1 h
  where
    numbers : (a b : ℕ) → (nat_lt a scope || (a == scope && nat_le b u)) ≡ true → a ≤ scope
    numbers a b h = grind (arith, nat_tests)

-- above the place that is kept no later place is preferred
pub none_above : (after : Option ℕ) (scope : ℕ) (q : ℕ × ℕ) (place : ℕ) → is_up_to after scope q ≡ false → q.0 ≡ scope → q.1 ≤ place → ¬ IsTrue (prefers_after after place q.1)
none_above None scope q place h same le better = let few = leb-false q.0 scope h in omega (arith, few, same)
none_above (Some u) scope q place h same le better = numbers q.0 q.1 h same le better
  where
    numbers : (a b : ℕ) → (nat_lt a scope || (a == scope && nat_le b u)) ≡ false → a ≡ scope → b ≤ place → prefers_after (Some u) place b ≡ true → ⊥
    numbers a b h same le better = grind (arith, nat_tests)

-- and up to it no earlier one
pub none_below : (after : Option ℕ) (scope : ℕ) (q : ℕ × ℕ) (place : ℕ) → is_up_to after scope q ≡ true → q.0 ≡ scope → place ≤ q.1 → ¬ IsTrue (prefers_after after place q.1)
none_below None scope q place h same le better = let more = ltb-true q.1 place better in omega (arith, more, le)
none_below (Some u) scope q place h same le better = numbers q.0 q.1 h same le better
  where
    numbers : (a b : ℕ) → (nat_lt a scope || (a == scope && nat_le b u)) ≡ true → a ≡ scope → place ≤ b → prefers_after (Some u) place b ≡ true → ⊥
    numbers a b h same le better = grind (arith, nat_tests)

-- in the same scope, what stands behind has a later place
pub later : (scope : ℕ) (q : ℕ × ℕ) (place : ℕ) → q.0 ≡ scope → is_before q (scope, place) ≡ true → q.1 < place
later scope q place same b =
    elim (before_is q (scope, place) b) [ inl less ↦ (let e = same in absurd (omega arith)) | inr both ↦ (let less = both.1 in omega arith) ]

-- above the place that is kept, a pair of another scope: no pair of this scope stands there or behind
pub another_above : (after : Option ℕ) (scope : ℕ) (q : ℕ × ℕ) (place : ℕ) → is_up_to after scope q ≡ false → (q.0 ≡ scope → ⊥) → is_before q (scope, place) ≡ true → ⊥
another_above after scope q place past other b =
    let low = scope_above after scope q past in
    elim (before_is q (scope, place) b) [ inl less ↦ other (omega arith) | inr both ↦ (let e = both.0 in other (omega arith)) ]

-- ---- from one position up, and down to the first
module _ (xs : List (ℕ × ℕ)) (rises : AreAscending xs) (scope : ℕ) (P R : ℕ → Type 0) (k : ℕ) (inside : k < length xs)
    (here : (place : ℕ) → get_or xs k (0, 0) ≡ (scope, place) → R place) where
  pub seen_up : (from : ℕ) → ((place m : ℕ) → from ≤ m → m < k → get_or xs m (0, 0) ≡ (scope, place) → P place → ⊥)
      → ((place : ℕ) → is_before (get_or xs k (0, 0)) (scope, place) ≡ true → R place)
      → (place m : ℕ) → P place → from ≤ m → m < length xs → get_or xs m (0, 0) ≡ (scope, place) → R place
  seen_up from front behind place m h least within at =
      elim (cases_lt m k) [
        | inl before ↦ absurd (front place m least before at h)
        | inr reached ↦ elim (cases_lt k m) [
          | inl beyond ↦ behind place (ap (is_before (get_or xs k (0, 0))) (sym at) ∙ rises k m (0, 0) beyond within)
          | inr not_beyond ↦ (let e : k ≡ m = omega arith in here place (ap (λ n. get_or xs n (0, 0)) e ∙ at))
        ]
      ]

  pub seen_down : (to : ℕ) → ((place m : ℕ) → k < m → m < to → get_or xs m (0, 0) ≡ (scope, place) → P place → ⊥)
      → ((place : ℕ) → is_before (scope, place) (get_or xs k (0, 0)) ≡ true → R place)
      → (place m : ℕ) → P place → m < to → get_or xs m (0, 0) ≡ (scope, place) → R place
  seen_down to behind front place m h within at =
      elim (cases_lt m k) [
        | inl before ↦ front place (ap (λ q. is_before q (get_or xs k (0, 0))) (sym at) ∙ rises m k (0, 0) before inside)
        | inr reached ↦ elim (cases_lt k m) [
          | inl beyond ↦ absurd (behind place m beyond within at h)
          | inr not_beyond ↦ (let e : k ≡ m = omega arith in here place (ap (λ n. get_or xs n (0, 0)) e ∙ at))
        ]
      ]
