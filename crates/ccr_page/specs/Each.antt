-- Things one after another, by their positions.
use Rattle.std.specs.Prelude.{ℕ, zero, suc, ◌+◌, List, [], ◌∷◌, ◌++◌}
use Rattle.ccr_page.specs.Pieces.{PieceData}

-- The pieces of each, by its position, the first of which is at this one.
abbrev pub each_from : {X : Type 0} → (ℕ → X → List PieceData) → ℕ → List X → List PieceData
each_from f n [] = []
each_from f n (x ∷ xs) = f n x ++ each_from f (n + 1) xs

-- The pieces at each of the first positions.
abbrev pub at_each : (ℕ → List PieceData) → ℕ → List PieceData
at_each f zero = []
at_each f (suc n) = at_each f n ++ f n
