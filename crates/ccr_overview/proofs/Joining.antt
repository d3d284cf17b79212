-- Two parts of a sentence.
use Rattle.std.proofs.Common.{◌≡◌, ◌<◌, List, [], ◌∷◌, ◌++◌, length, codes, refl, arith}
use Rattle.ccr_overview.specs.PageData.{WordData, Plain}
use Rattle.ccr_overview.specs.Sayings.{joined}

-- the first is empty
pub joined_first : (xs ys : List WordData) → length xs ≡ 0 → joined xs ys ≡ ys
joined_first [] ys none = refl
joined_first (x ∷ xs) ys none = absurd (omega (arith, none))

-- the second is empty
pub joined_second : (xs ys : List WordData) → length ys ≡ 0 → joined xs ys ≡ xs
joined_second [] [] none = refl
joined_second (x ∷ xs) [] none = refl
joined_second xs (y ∷ ys) none = absurd (omega (arith, none))

-- neither is
pub joined_both : (xs ys : List WordData) → 0 < length xs → 0 < length ys → joined xs ys ≡ xs ++ Plain (codes "; ") ∷ ys
joined_both [] ys first second = absurd (omega (arith, first))
joined_both (x ∷ xs) [] first second = absurd (omega (arith, second))
joined_both (x ∷ xs) (y ∷ ys) first second = refl

-- all three
pub ruleset joining = (joined_first, joined_second, joined_both)
