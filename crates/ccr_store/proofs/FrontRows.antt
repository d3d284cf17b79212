-- Lists of rows, one for each element of another list.
use Rattle.std.proofs.Common.{◌≡◌, ℕ, zero, suc, ◌+◌, ◌<◌, List, [], ◌∷◌, ◌++◌, length, take, get_or, Some, refl, sym, ap, ◌∙◌, arith}
use Rattle.std.specs.List.{slice_get}
use Rattle.sqlite.specs.Order.{Row}

pub next_item : {X : Type 0} (xs : List X) (i : ℕ) (x : X) → slice_get xs i ≡ Some x → take (i + 1) xs ≡ take i xs ++ x ∷ []
next_item [] i x at = absurd (cc)
next_item (y ∷ ys) zero x at = let same : y ≡ x = cc in ap (λ z. z ∷ []) same
next_item (y ∷ ys) (suc i) x at =
    let next : suc (i + 1) ≡ suc i + 1 = omega arith in
    ap (λ n. take n (y ∷ ys)) (sym next) ∙ ap (λ l. y ∷ l) (next_item ys i x at)

module _ {X : Type 0} (rows_from : ℕ → List X → List Row) (row_of : ℕ → X → Row) (none : (k : ℕ) → rows_from k [] ≡ [])
    (each : (k : ℕ) (x : X) (xs : List X) → rows_from k (x ∷ xs) ≡ row_of k x ∷ rows_from (k + 1) xs) where
  pub rows_length : (k : ℕ) (xs : List X) → length (rows_from k xs) ≡ length xs
  rows_length k [] = ap (λ (l : List Row). length l) (none k)
  rows_length k (x ∷ xs) = ap (λ (l : List Row). length l) (each k x xs) ∙ ap suc (rows_length (k + 1) xs)

  pub row_there : (k : ℕ) (xs : List X) (rows : List Row) (i : ℕ) (r : Row) → rows ≡ rows_from k xs → i < length rows → r ≡ get_or rows i r → (x : X) × (slice_get xs i ≡ Some x) × (r ≡ row_of (k + i) x)
  row_there k [] rows i r same within is = absurd (omega (arith, within, ap (λ (l : List Row). length l) (same ∙ none k)))
  row_there k (x ∷ xs) rows zero r same within is =
      let here : k ≡ k + 0 = omega arith in
      (x, refl, is ∙ ap (λ (l : List Row). get_or l 0 r) (same ∙ each k x xs) ∙ ap (λ n. row_of n x) here)
  row_there k (x ∷ xs) rows (suc i) r same within is =
      let whole : rows ≡ row_of k x ∷ rows_from (k + 1) xs = same ∙ each k x xs in
      let inside : i < length (rows_from (k + 1) xs) = omega (arith, within, ap (λ (l : List Row). length l) whole) in
      let rest = row_there (k + 1) xs (rows_from (k + 1) xs) i r refl inside (is ∙ ap (λ (l : List Row). get_or l (suc i) r) whole) in
      let next : k + 1 + i ≡ k + suc i = omega arith in
      (rest.0, rest.1, rest.2 ∙ ap (λ n. row_of n rest.0) next)
