-- Rows of `builds` and of `pairs` as a history has them.
use Rattle.std.specs.Prelude.{◌≡◌, ◌<◌, ◌^◌, pos, [], ◌∷◌, ℕ, List, IsUtf8}
use Rattle.sqlite.specs.declared.types.Value.TheVariants.{Int, Text}
use Rattle.sqlite.specs.Order.{Row}

-- a number, a name, and two more numbers: id, job, number and status of a build; or build, input, scope and place
abbrev pub named_row : ℕ → List ℕ → ℕ → ℕ → Row
named_row first name second third = Int (pos first) ∷ Text name ∷ Int (pos second) ∷ Int (pos third) ∷ []

-- the row has three numbers of 32 bits, and a text as its name
abbrev pub IsNamedRow : Row → Type 0
IsNamedRow row =
    (first : ℕ) × (name : List ℕ) × (second : ℕ) × (third : ℕ)
    × (first < 2 ^ 32) × IsUtf8 name × (second < 2 ^ 32) × (third < 2 ^ 32) × (row ≡ named_row first name second third)
