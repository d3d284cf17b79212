-- What is left of a line.
use Rattle.std.proofs.Common.{◌≡◌, ℕ, ◌<◌, List, [], ◌∷◌, length, arith, refl}
use Rattle.ccr_choice.specs.declared.word.Word.{Word}
use Rattle.ccr_choice.specs.Text.{line_text}

abbrev pub line_rest : List Word → List ℕ
line_rest [] = []
line_rest (w ∷ ws) = line_text (w ∷ ws)

pub line_rest-all : (ws : List Word) → 0 < length ws → line_rest ws ≡ line_text ws
line_rest-all [] h = absurd (omega arith)
line_rest-all (w ∷ ws) h = refl
