-- The places that are left where disabled ones are left out.
use Rattle.std.proofs.Common.{◌≡◌, ℕ, zero, suc, ◌+◌, ◌-◌, ◌<◌, ◌≤◌, List, [], ◌∷◌, length, map, Bool, true, false, cond, not, ◌&&◌, ◌||◌, ◌==◌, IsTrue, refl, sym, ap, ap₂, ◌∙◌, arith}
use Rattle.std.specs.Prelude.{filter, nat_lt, nat_le}
use Rattle.std.specs.List.{AllByRecursion, enumerate_from}
use Rattle.std.proofs.lemmas.Bool.{and_parts, and_from, cond-true, ltb-true, leb-true, lt-ltb, eqb-true, ne_eqb, false_from_ne_true}
use Rattle.ccr_history.specs.Pairs.{is_same_pair, has_pair}
use Rattle.ccr_history.specs.TextMap.{TextMap}
use Rattle.ccr_history.specs.Scopes.{ScopeData, is_scope}
use Rattle.ccr_history.specs.Tables.{TableData, versions_of, scope_number}
use Rattle.ccr_history.specs.History.{places_at, has_place}
use Rattle.ccr_choice.specs.Problem.{are_places_after}
use Rattle.ccr_problem.specs.Allowed.{PinsData, meets_all, places_from}

-- ---- what passes a test
pub filter_same : (p q : ℕ → Bool) (ns : List ℕ) → ((n : ℕ) → p n ≡ q n) → filter p ns ≡ filter q ns
filter_same p q [] same = refl
filter_same p q (n ∷ ns) same = ap₂ (λ b ms. cond b (n ∷ ms) ms) (same n) (filter_same p q ns same)

pub filter_all : (p : ℕ → Bool) (ns : List ℕ) → AllByRecursion (λ n. p n ≡ true) ns → filter p ns ≡ ns
filter_all p [] all = refl
filter_all p (n ∷ ns) all = cond-true (p n) (n ∷ filter p ns) (filter p ns) all.0 ∙ ap (λ ms. n ∷ ms) (filter_all p ns all.1)

-- places that ascend still do where some are left out
lower : (low n : ℕ) (ns : List ℕ) → low < n → are_places_after n ns ≡ true → are_places_after low ns ≡ true
lower low n [] less up = refl
lower low n (m ∷ ms) less up =
    let parts = and_parts _ _ up in
    let next : n < m = ltb-true _ _ parts.0 in
    and_from _ _ (lt-ltb _ _ (omega arith)) parts.1

pub filter_ascends : (p : ℕ → Bool) (low : ℕ) (ns : List ℕ) → are_places_after low ns ≡ true → are_places_after low (filter p ns) ≡ true
filter_ascends p low [] up = refl
filter_ascends p low (n ∷ ns) up =
    let first = and_parts (nat_lt low n) (nat_le n 100000 && are_places_after n ns) up in
    let next = and_parts (nat_le n 100000) (are_places_after n ns) first.1 in
    by (p n) first.0 next.0 (filter_ascends p n ns next.1)
  where
    by : (b : Bool) → nat_lt low n ≡ true → nat_le n 100000 ≡ true → are_places_after n (filter p ns) ≡ true
        → are_places_after low (cond b (n ∷ filter p ns) (filter p ns)) ≡ true
    by true above few rest = and_from _ _ above (and_from _ _ few rest)
    by false above few rest = lower low n (filter p ns) (ltb-true _ _ above) rest

-- ---- disabled places are places of the tables
module _ (ts : List TableData) (ds : List (ℕ × ℕ)) (placed : AllByRecursion (λ q. IsTrue (has_place ts q.0 q.1)) ds) where
  there : (scope place : ℕ) (es : List (ℕ × ℕ)) → AllByRecursion (λ q. IsTrue (has_place ts q.0 q.1)) es → has_pair (scope, place) es ≡ true → has_place ts scope place ≡ true
  there scope place [] all is = absurd (cc)
  there scope place (q ∷ qs) all is = by (is_same_pair (scope, place) q) refl is (λ later. there scope place qs all.1 later)
    where
      by : (b : Bool) → is_same_pair (scope, place) q ≡ b → (b || has_pair (scope, place) qs) ≡ true → (has_pair (scope, place) qs ≡ true → has_place ts scope place ≡ true) → has_place ts scope place ≡ true
      by true e is rec = let parts = and_parts _ _ e in ap₂ (has_place ts) (eqb-true _ _ parts.0) (eqb-true _ _ parts.1) ∙ all.0
      by false e is rec = rec is

  -- none is in a scope without so many places
  pub none_disabled : (scope place : ℕ) → places_at ts scope < place → has_pair (scope, place) ds ≡ false
  none_disabled scope place above =
      false_from_ne_true _ (λ is.
      let parts = and_parts (nat_lt 0 place) (nat_le place (places_at ts scope)) (there scope place ds placed is) in
      let high : place ≤ places_at ts scope = leb-true _ _ parts.1 in
      absurd (omega (arith, high, above)))

  pub none_disabled_in : (scope place : ℕ) → places_at ts scope ≡ 0 → has_pair (scope, place) ds ≡ false
  none_disabled_in scope place none =
      false_from_ne_true _ (λ is.
      let parts = and_parts (nat_lt 0 place) (nat_le place (places_at ts scope)) (there scope place ds placed is) in
      let low : 0 < place = ltb-true _ _ parts.0 in
      let high : place ≤ places_at ts scope = leb-true _ _ parts.1 in
      absurd (omega (arith, low, high, none)))

  -- the places of versions that come behind are not disabled
  places_above : (low first : ℕ) (pins : PinsData) (vs : List TextMap) → low < first → AllByRecursion (λ n. low < n) (places_from first pins vs)
  places_above low first pins [] less = tt
  places_above low first pins (v ∷ vs) less = by (meets_all pins v) (places_above low (first + 1) pins vs (omega arith))
    where
      by : (b : Bool) → AllByRecursion (λ n. low < n) (places_from (first + 1) pins vs)
          → AllByRecursion (λ n. low < n) (map (λ x. x.0) (cond b ((first, v) ∷ filter (λ x. meets_all pins x.1) (enumerate_from (first + 1) vs)) (filter (λ x. meets_all pins x.1) (enumerate_from (first + 1) vs))))
      by true rest = (less, rest)
      by false rest = rest

  enabled_each : (scope : ℕ) (ns : List ℕ) → AllByRecursion (λ n. places_at ts scope < n) ns → AllByRecursion (λ n. not (has_pair (scope, n) ds) ≡ true) ns
  enabled_each scope [] all = tt
  enabled_each scope (n ∷ ns) all = (ap not (none_disabled scope n all.0), enabled_each scope ns all.1)

  pub behind_enabled : (scope first : ℕ) (pins : PinsData) (vs : List TextMap) → places_at ts scope < first
      → filter (λ n. not (has_pair (scope, n) ds)) (places_from first pins vs) ≡ places_from first pins vs
  behind_enabled scope first pins vs above =
      filter_all (λ n. not (has_pair (scope, n) ds)) (places_from first pins vs)
      (enabled_each scope (places_from first pins vs) (places_above (places_at ts scope) first pins vs above))

-- ---- a scope has the places of its versions
none_first : (ts : List TableData) → places_at ts 0 ≡ 0
none_first [] = refl
none_first (t ∷ ts) = none_first ts

pub places_of_scope : (s : ScopeData) (ts : List TableData) → places_at ts (scope_number s ts) ≡ length (versions_of s ts)
places_of_scope s [] = refl
places_of_scope s (t ∷ ts) = by (is_scope s t.scope) (scope_number s ts) refl (places_of_scope s ts)
  where
    by : (b : Bool) (n : ℕ) → scope_number s ts ≡ n → places_at ts (scope_number s ts) ≡ length (versions_of s ts)
        → places_at (t ∷ ts) (cond b 1 (cond (scope_number s ts == 0) 0 (scope_number s ts + 1))) ≡ length (cond b t.versions (versions_of s ts))
    by true n e rec = refl
    by false zero e rec =
        ap (λ k. places_at (t ∷ ts) (cond (k == 0) 0 (k + 1))) e ∙ none_first ts ∙ sym (none_first ts) ∙ ap (places_at ts) (sym e) ∙ rec
    by false (suc n) e rec =
        let past : ((suc n + 1) == 1) ≡ false = ne_eqb (suc n + 1) 1 (λ d. absurd (omega (arith, d))) in
        let less : (suc n + 1) - 1 ≡ suc n = omega arith in
        ap (λ k. places_at (t ∷ ts) (cond (k == 0) 0 (k + 1))) e
        ∙ ap (λ c. places_at (t ∷ ts) (cond c 0 (suc n + 1))) (ne_eqb (suc n) 0 (λ d. absurd (omega (arith, d))))
        ∙ ap (λ c. cond c (length t.versions) (places_at ts ((suc n + 1) - 1))) past
        ∙ ap (places_at ts) less ∙ ap (places_at ts) (sym e) ∙ rec
