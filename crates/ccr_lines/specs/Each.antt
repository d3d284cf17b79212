-- Lines, or values, of several things, one behind the other.
use Rattle.std.specs.Prelude.{◌≡◌, ℕ, ◌+◌, List, [], ◌∷◌, ◌++◌}

-- all that is shown of each of these things, which have numbers from i on: first what may be shown of the first thing, and
-- behind it what is shown of the others
abbrev pub AreEach : {X Y : Type 0} → (ℕ → X → List Y → Type 0) → ℕ → List X → List Y → Type 0
AreEach {X} {Y} May i [] all = all ≡ []
AreEach {X} {Y} May i (x ∷ xs) all =
    (own : List Y) × (others : List Y) × May i x own × AreEach May (i + 1) xs others × (all ≡ own ++ others)
