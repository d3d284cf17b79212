-- One more node below those that are placed.
use Rattle.std.proofs.Common.{◌≡◌, ◌≢◌, ℕ, ◌+◌, ◌*◌, ◌<◌, ◌≤◌, ◌⊎◌, List, [], ◌∷◌, ◌++◌, length, get_or, set, take, inl, inr, sym, ap, ◌∙◌, subst, arith, length-set, slice_index, max}
use Rattle.std.specs.Prelude.{All, Contains}
use Rattle.std.proofs.lemmas.Bool.{cases_eq, cases_lt}
use Rattle.std.proofs.lemmas.List.{take_more, take_all, get_or-set_same, get_or-set_other, get_or_past}
use Rattle.std.proofs.lemmas.List.Elements.{All-set, Contains-push_cases}
use Rattle.ccr_layout.specs.Places.{AreApart, ArePlaced}

-- no number is greater, also past the end
pub low_at : (most : ℕ) (hs : List ℕ) (k : ℕ) → All (λ h. h ≤ most) hs → slice_index hs k ≤ most
low_at most hs k low =
    elim (cases_lt k (length hs)) [
      | inl within ↦ low k 0 within
      | inr past ↦ omega (arith, get_or_past hs k 0 past)
    ]

-- the first nodes of an order are placed, above a height that is free
pub record ArePlacing (order heights tops : List ℕ) (i free : ℕ) : Type 0 where
  pub long : length tops ≡ length heights
  pub high : free ≤ 10000000 + 728 * i
  pub low : All (λ t. t ≤ 10300000) tops
  pub above : (a : ℕ) → a < length tops → Contains (take i order) a → slice_index tops a + slice_index heights a + 12 ≤ free
  pub apart : (a b : ℕ) → a < length tops → b < length tops → Contains (take i order) a → Contains (take i order) b → a ≢ b
      → AreApart heights tops a b

-- the last of the first nodes, or an earlier one
which : (order : List ℕ) (i x a : ℕ) → i < length order → x ≡ get_or order i x → Contains (take (i + 1) order) a → (x ≡ a) ⊎ (Contains (take i order) a × (a ≢ x))
which order i x a within read has =
    let P : List ℕ → Type 0 = λ xs. Contains xs a in
    let more : Contains (take i order ++ x ∷ []) a = subst P (take_more order i x within ∙ ap (λ y. take i order ++ y ∷ []) (sym read)) has in
    elim (cases_eq a x) [
      | inl same ↦ inl (sym same)
      | inr other ↦ elim (Contains-push_cases (take i order) x a more) [
        | inl earlier ↦ inr (earlier, other)
        | inr last ↦ absurd (other (sym last))
      ]
    ]

module _ (order heights tops : List ℕ) (i free x top next : ℕ) (is : ArePlacing order heights tops i free) (within : i < length order) (few : length order ≤ 400) (read : x ≡ get_or order i x)
    (below : free ≤ top) (high : top ≤ 10000000 + 728 * i) (ends : top + slice_index heights x + 12 ≤ next) (next_high : next ≤ 10000000 + 728 * (i + 1)) where
  tops' : List ℕ
  tops' = set tops x top

  long' : length tops' ≡ length tops
  unfolding tops'
  long' = length-set tops x top

  here : (a : ℕ) → a < length tops' → x ≡ a → slice_index tops' a ≡ top
  unfolding tops'
  here a low same = ap (λ k. slice_index (set tops x top) k) (sym same) ∙ get_or-set_same tops x top 0 (omega (arith, low, long', same))

  there : (a : ℕ) → a ≢ x → slice_index tops' a ≡ slice_index tops a
  unfolding tops'
  there a other = get_or-set_other tops x a top 0 other

  above' : (a : ℕ) → a < length tops' → Contains (take (i + 1) order) a → slice_index tops' a + slice_index heights a + 12 ≤ next
  above' a low has =
      elim (which order i x a within read has) [
        | inl same ↦ (let e = here a low same in let h = ap (slice_index heights) same in omega (arith, e, h, ends))
        | inr earlier ↦ (let e = there a earlier.1 in let h = is.above a (omega (arith, low, long')) earlier.0 in omega (arith, e, h, ends, below))
      ]

  apart' : (a b : ℕ) → a < length tops' → b < length tops' → Contains (take (i + 1) order) a → Contains (take (i + 1) order) b → a ≢ b → AreApart heights tops' a b
  apart' a b la lb ha hb differ =
      elim (which order i x a within read ha) [
        | inl same ↦ elim (which order i x b within read hb) [
          | inl again ↦ absurd (differ (sym same ∙ again))
          | inr earlier ↦ (let e = here a la same in let f = there b earlier.1 in let h = is.above b (omega (arith, lb, long')) earlier.0 in inr (omega (arith, e, f, h, below)))
        ]
        | inr first ↦ elim (which order i x b within read hb) [
          | inl same ↦ (let e = here b lb same in let f = there a first.1 in let h = is.above a (omega (arith, la, long')) first.0 in inl (omega (arith, e, f, h, below)))
          | inr second ↦ (let e = there a first.1 in let f = there b second.1 in
              elim (is.apart a b (omega (arith, la, long')) (omega (arith, lb, long')) first.0 second.0 differ) [
                | inl h ↦ inl (omega (arith, e, f, h))
                | inr h ↦ inr (omega (arith, e, f, h))
              ])
        ]
      ]

  pub placing_more : ArePlacing order heights (set tops x top) (i + 1) next
  unfolding tops'
  placing_more = record {
    long = long' ∙ is.long;
    high = next_high;
    low = All-set (λ t. t ≤ 10300000) tops x top (omega (arith, high, within, few)) is.low;
    above = above';
    apart = apart';
  }

-- all nodes of the order are placed
pub placed_all : (order heights tops : List ℕ) (i free : ℕ) → length order ≤ i → ArePlacing order heights tops i free → ArePlaced order heights tops
placed_all order heights tops i free past is =
    let whole : take i order ≡ order = take_all i order past in
    let P : ℕ → List ℕ → Type 0 = λ a xs. Contains xs a in
    record {
      long = is.long;
      low = is.low;
      apart = λ a b la lb ha hb differ. is.apart a b la lb (subst (P a) (sym whole) ha) (subst (P b) (sym whole) hb) differ;
    }

-- where one number is made no less, none is
pub set_no_less : (ps : List ℕ) (x low k : ℕ) → slice_index ps k ≤ slice_index (set ps x (max (slice_index ps x) low)) k
set_no_less ps x low k =
    let v = max (slice_index ps x) low in
    elim (cases_eq k x) [
      | inl same ↦ elim (cases_lt x (length ps)) [
        | inl within ↦ (let e : slice_index (set ps x v) k ≡ v = ap (λ i. slice_index (set ps x v) i) same ∙ get_or-set_same ps x v 0 within in let h = ap (slice_index ps) same in omega (arith, e, h))
        | inr past ↦ (let z : slice_index ps k ≡ 0 = get_or_past ps k 0 (omega (arith, past, same)) in omega (arith, z))
      ]
      | inr other ↦ (let e = get_or-set_other ps x k v 0 other in omega (arith, e))
    ]
