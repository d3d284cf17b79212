-- Texts, by their bytes.
use Rattle.std.specs.Prelude.{ℕ, List}

-- the bytes of a text
abbrev pub Text : Type 0
Text = List ℕ
