-- What is told beside the lines, as on standard error.
use Rattle.std.specs.Prelude.{◌≡◌, ◌⊎◌, List, [], ◌∷◌, ◌++◌}
use Rattle.ccr_history.specs.Text.{Text}

-- a line is told after those before; out of memory, none is
abbrev pub IsNoted : Text → List Text → List Text → Type 0
IsNoted line old new = (new ≡ old ++ line ∷ []) ⊎ (new ≡ old)
