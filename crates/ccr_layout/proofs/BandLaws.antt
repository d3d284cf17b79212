-- One more column right of the others.
use Rattle.std.proofs.Common.{◌≡◌, ℕ, ◌+◌, ◌*◌, ◌<◌, ◌≤◌, List, [], ◌∷◌, ◌++◌, inl, inr, sym, ap, ◌∙◌, subst, arith}
use Rattle.std.proofs.lemmas.Bool.{cases_lt}
use Rattle.std.proofs.lemmas.List.{get_or_append_left, get_or_push, length_push}
use Rattle.ccr_layout.specs.declared.band.Band.{Band}
use Rattle.ccr_layout.specs.Bands.{band_in, AreBands}

-- the columns so far, of which the last ends here
pub record AreBandsTo (column end : ℕ) (bands : List Band) : Type 0 where
  pub are : AreBands column bands
  pub low : end ≤ 40 + 2136 * column
  pub last : (c : ℕ) → c + 1 ≡ column → (band_in bands c).right ≡ end

pub bands_more : (column end : ℕ) (bands : List Band) (b : Band) → AreBandsTo column end bands → column < 403 → (1 ≤ column → end + 46 ≤ b.left) → b.left ≤ 176 + 2136 * column
    → b.left ≤ b.inner → b.inner ≤ b.left + 1000 → b.inner ≤ b.right → b.right ≤ b.inner + 1000 → b.right ≤ 40 + 2136 * (column + 1) → AreBandsTo (column + 1) b.right (bands ++ b ∷ [])
bands_more column end bands b is few later left inner_high inner_low right_high right_low low = record {
  are = record { long = length_push bands b ∙ ap (λ n. n + 1) is.are.long; beside = beside'; tabs = tabs'; boxes = boxes'; low = low' };
  low = low;
  last = λ c e. ap (λ x. x.right) (new c (omega (arith, e)));
}
  where
    old : (c : ℕ) → c < column → band_in (bands ++ b ∷ []) c ≡ band_in bands c
    old c less = get_or_append_left bands (b ∷ []) _ c (omega (arith, less, is.are.long))

    new : (c : ℕ) → c ≡ column → band_in (bands ++ b ∷ []) c ≡ b
    new c e = get_or_push bands b _ c (is.are.long ∙ sym e)

    beside' : (c : ℕ) → c + 1 < column + 1 → (band_in (bands ++ b ∷ []) c).right + 46 ≤ (band_in (bands ++ b ∷ []) (c + 1)).left
    beside' c less =
        let e = ap (λ x. x.right) (old c (omega (arith, less))) in
        elim (cases_lt (c + 1) column) [
          | inl inside ↦ (let f = ap (λ x. x.left) (old (c + 1) inside) in let h = is.are.beside c inside in omega (arith, e, f, h))
          | inr past ↦ (let f = ap (λ x. x.left) (new (c + 1) (omega (arith, past, less))) in let h = is.last c (omega (arith, past, less)) in omega (arith, e, f, h, later (omega (arith, past, less))))
        ]

    tabs' : (c : ℕ) → c < column + 1 → (band_in (bands ++ b ∷ []) c).left ≤ (band_in (bands ++ b ∷ []) c).inner
    tabs' c less =
        elim (cases_lt c column) [
          | inl inside ↦ (let P : Band → Type 0 = λ x. x.left ≤ x.inner in subst P (sym (old c inside)) (is.are.tabs c inside))
          | inr past ↦ (let P : Band → Type 0 = λ x. x.left ≤ x.inner in subst P (sym (new c (omega (arith, past, less)))) inner_high)
        ]

    boxes' : (c : ℕ) → c < column + 1 → (band_in (bands ++ b ∷ []) c).inner ≤ (band_in (bands ++ b ∷ []) c).right
    boxes' c less =
        elim (cases_lt c column) [
          | inl inside ↦ (let P : Band → Type 0 = λ x. x.inner ≤ x.right in subst P (sym (old c inside)) (is.are.boxes c inside))
          | inr past ↦ (let P : Band → Type 0 = λ x. x.inner ≤ x.right in subst P (sym (new c (omega (arith, past, less)))) right_high)
        ]

    low' : (c : ℕ) → c < column + 1 → (band_in (bands ++ b ∷ []) c).right ≤ 900000
    low' c less =
        elim (cases_lt c column) [
          | inl inside ↦ (let e = ap (λ x. x.right) (old c inside) in omega (arith, e, is.are.low c inside))
          | inr past ↦ (let e = ap (λ x. x.right) (new c (omega (arith, past, less))) in omega (arith, e, low, few))
        ]
