-- Inputs with some of their allowed places.
use Rattle.std.specs.Prelude.{ℕ, ◌+◌, List, [], ◌∷◌, filter, Bool}
use Rattle.ccr_choice.specs.Problem.{InputValue}

-- Input k and the inputs behind it, with those of their allowed places that they may take.
abbrev pub narrowed_from : (ℕ → ℕ → Bool) → ℕ → List InputValue → List InputValue
narrowed_from may k [] = []
narrowed_from may k (x ∷ xs) = record x { places = filter (may k) x.places } ∷ narrowed_from may (k + 1) xs
