-- Numbers of scopes and places of versions, found by an index.
use Rattle.std.proofs.Common.{◌≡◌, ℕ, zero, suc, ◌+◌, ◌-◌, ◌<◌, ◌≤◌, List, [], ◌∷◌, length, map, map-id, Bool, true, false, not, cond, ◌==◌, nat_lt, Option, Some, None, option_map, unwrap_or, refl, sym, ap, ◌∙◌, if◌then◌else◌, slice_get, position, lt-ltb, le-ltb, arith}
use Rattle.std.proofs.lemmas.Bool.{ne_eqb, ltb-true, ltb-false}
use Rattle.std.specs.List.{prefix_len}
use Rattle.std.specs.Map.{keys_of, lookup}
use Rattle.indexmap.proofs.MapLemmas.{Missing-position}
use Rattle.ccr_history.specs.TextMap.{TextMap, is_version}
use Rattle.ccr_history.specs.Scopes.{ScopeData, is_scope}
use Rattle.ccr_history.specs.Tables.{TableData, scope_number, place_in, at_place, versions_at, tables_of}
use Rattle.ccr_history.specs.History.{places_at}

-- one more than the index, and 0 where there is none
abbrev pub number_of : Option ℕ → ℕ
number_of None = 0
number_of (Some i) = i + 1

position-cons : {K : Type 0} (p : K → Bool) (x : K) (xs : List K) → position p (x ∷ xs) ≡ cond (p x) (Some 0) (option_map (λ i. suc i) (position p xs))
position-cons {K} p x xs = by (p x)
  where
    later : (b : Bool) → nat_lt (prefix_len (λ y. not (p y)) xs) (length xs) ≡ b
        → cond (nat_lt (1 + prefix_len (λ y. not (p y)) xs) (length (x ∷ xs))) (Some (1 + prefix_len (λ y. not (p y)) xs)) None ≡ option_map (λ i. suc i) (cond b (Some (prefix_len (λ y. not (p y)) xs)) None)
    later true is =
        let n = prefix_len (λ y. not (p y)) xs in
        let less : n < length xs = ltb-true n (length xs) is in
        rw (lt-ltb (1 + n) (length (x ∷ xs)) (omega arith)) (ap Some (omega arith))
    later false is =
        let n = prefix_len (λ y. not (p y)) xs in
        let end : length xs ≤ n = ltb-false n (length xs) is in
        rw (le-ltb (1 + n) (length (x ∷ xs)) (omega arith)) refl

    by : (t : Bool)
        → cond (nat_lt (cond (not t) (1 + prefix_len (λ y. not (p y)) xs) 0) (length (x ∷ xs))) (Some (cond (not t) (1 + prefix_len (λ y. not (p y)) xs) 0)) None
        ≡ cond t (Some 0) (option_map (λ i. suc i) (cond (nat_lt (prefix_len (λ y. not (p y)) xs) (length xs)) (Some (prefix_len (λ y. not (p y)) xs)) None))
    by true = rw (lt-ltb 0 (length (x ∷ xs)) (omega arith)) refl
    by false = later (nat_lt (prefix_len (λ y. not (p y)) xs) (length xs)) refl

module _ {X K : Type 0} (key : X → K) (p : K → Bool) (f : List X → ℕ) (none : f [] ≡ 0)
    (step : (x : X) (xs : List X) → f (x ∷ xs) ≡ (if p (key x) then 1 else (if f xs == 0 then 0 else f xs + 1))) where
  number_is : (xs : List X) → f xs ≡ number_of (position p (map key xs))
  number_is [] = none
  number_is (x ∷ xs) = step x xs ∙ by (p (key x)) (position p (map key xs)) (number_is xs) ∙ ap number_of (sym (position-cons p (key x) (map key xs)))
    where
      by : (t : Bool) (o : Option ℕ) → f xs ≡ number_of o → (if t then 1 else (if f xs == 0 then 0 else f xs + 1)) ≡ number_of (cond t (Some 0) (option_map (λ i. suc i) o))
      by true o is = refl
      by false None is = rw is refl
      by false (Some i) is = rw (is, ne_eqb (i + 1) 0 (λ e. omega (arith, e))) (omega arith)

pub scope_number-entries : (k : ScopeData) (es : List (ScopeData × List TextMap)) → scope_number k (tables_of es) ≡ number_of (position (is_scope k) (keys_of es))
scope_number-entries k es = number_is (λ e. e.0) (is_scope k) (λ l. scope_number k (tables_of l)) refl (λ _ _. refl) es

-- a scope without a number isn't found
pub lookup-unnumbered : (k : ScopeData) (es : List (ScopeData × List TextMap)) → scope_number k (tables_of es) ≡ 0 → lookup (is_scope k) es ≡ None
lookup-unnumbered k es none = (Missing-position (is_scope k) es (by (position (is_scope k) (keys_of es)) (sym (scope_number-entries k es) ∙ none))).value
  where
    by : (o : Option ℕ) → number_of o ≡ 0 → o ≡ None
    by None is = refl
    by (Some i) is = absurd (omega (arith, is))

pub place_in-position : (v : TextMap) (vs : List TextMap) → place_in v vs ≡ number_of (position (is_version v) vs)
place_in-position v vs = number_is (λ w. w) (is_version v) (place_in v) refl (λ _ _. refl) vs ∙ ap (λ l. number_of (position (is_version v) l)) (map-id vs)

-- ---- what stands at a place

at_place-index : {X : Type 0} (n i : ℕ) (xs : List X) → 1 ≤ n → i ≡ n - 1 → at_place n xs ≡ slice_get xs i
at_place-index n i xs some is = rw (ne_eqb n 0 (λ e. omega (arith, e)), is) refl

-- a scope has as many places as versions
pub places_at-versions : (n : ℕ) (ts : List TableData) → places_at ts n ≡ length (versions_at n ts)
places_at-versions n [] = by (n == 0)
  where
    by : (t : Bool) → 0 ≡ length (unwrap_or (option_map (λ (s : TableData). s.versions) (if t then None else None)) [])
    by true = refl
    by false = refl
places_at-versions zero (t ∷ ts) = places_at-versions zero ts
places_at-versions (suc zero) (t ∷ ts) = refl
places_at-versions (suc (suc m)) (t ∷ ts) =
    let less : suc (suc m) - 1 ≡ suc m = omega arith in
    let one : (suc (suc m) == 1) ≡ false = ne_eqb (suc (suc m)) 1 (λ e. omega (arith, e)) in
    let here : at_place (suc m) ts ≡ at_place (suc (suc m)) (t ∷ ts) = at_place-index (suc m) m ts (omega arith) (omega arith) ∙ sym (at_place-index (suc (suc m)) (suc m) (t ∷ ts) (omega arith) (omega arith)) in
    rw one (ap (places_at ts) less ∙ places_at-versions (suc m) ts ∙ ap (λ o. length (unwrap_or (option_map (λ (s : TableData). s.versions) o) [])) here)
