-- Passing over a string of JSON.
use Rattle.std.specs.Prelude.{ℕ, List, [], ◌∷◌, Bool, true, false, ◌==◌, if◌then◌else◌}

-- what stands behind the closing quote; a byte behind a backslash is passed over
abbrev pub after_string : (escaped : Bool) → List ℕ → List ℕ
after_string escaped [] = []
after_string true (x ∷ xs) = after_string false xs
after_string false (x ∷ xs) = if x == 34 then xs else after_string (x == 92) xs
