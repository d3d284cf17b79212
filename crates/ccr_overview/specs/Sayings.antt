-- Words, and parts of sentences.
use Rattle.std.specs.Prelude.{ℕ, List, [], ◌∷◌, ◌++◌, ◌==◌, Option, Some, None, if◌then◌else◌, codes, decimal}
use Rattle.ccr_history.specs.Text.{Text}
use Rattle.ccr_history.specs.TextMap.{TextMap}
use Rattle.ccr_overview.specs.PageData.{WordData, Plain, Versioned}
use Rattle.ccr_overview.specs.Shorts.{version_of}

-- a version; its place where the table lacks it
abbrev pub version_word : Option TextMap → ℕ → WordData
version_word (Some v) place = Versioned (version_of v)
version_word None place = Plain (decimal place)

-- ---- one after another
-- what stands before the thing at position k: nothing before the first
abbrev pub separated : Text → ℕ → List WordData
separated words k = if k == 0 then [] else Plain words ∷ []

-- two parts of a sentence, of which either may be empty
abbrev pub joined : List WordData → List WordData → List WordData
joined [] second = second
joined (w ∷ ws) [] = w ∷ ws
joined (w ∷ ws) (v ∷ vs) = (w ∷ ws) ++ Plain (codes "; ") ∷ (v ∷ vs)
