-- No list is later than one that has ended.
use Rattle.std.proofs.Common.{◌≡◌, ℕ, List, [], ◌∷◌, length, arith}
use Rattle.ccr_choice.specs.Later.{IsLater}

pub not_later : (xs ys : List ℕ) → length ys ≡ 0 → IsLater xs ys → ⊥
not_later [] ys h l = l
not_later (x ∷ xs) [] h l = l
not_later (x ∷ xs) (y ∷ ys) h l = omega arith
