-- The plain order of place lists.
use Rattle.std.specs.Prelude.{◌≡◌, ℕ, ◌<◌, ◌⊎◌, List, [], ◌∷◌}

-- A list of places is later than another if, at the first position where they differ, as far as both go, it has the
-- greater place.
abbrev pub IsLater : List ℕ → List ℕ → Type 0
IsLater [] ys = ⊥
IsLater (x ∷ xs) [] = ⊥
IsLater (x ∷ xs) (y ∷ ys) = (y < x) ⊎ ((x ≡ y) × IsLater xs ys)
