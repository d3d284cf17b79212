-- Sentences, word by word.
use Rattle.std.specs.Prelude.{ℕ, List, [], ◌∷◌, ◌++◌, flat_map, codes, string_bytes}
use Rattle.ccr_page.specs.Pieces.{PieceData, Markup, Shown, Cut, Isolated, Number}
use Rattle.ccr_page.specs.declared.data.Word.{Word}
use Rattle.ccr_page.specs.declared.data.Word.TheVariants as word
use Rattle.ccr_page.specs.declared.data.Version.{Version}
use Rattle.ccr_page.specs.Texts.{Text}

-- A link that leads to a job or a resource: markup, a position, markup, and a name.
abbrev pub anchor : Text → ℕ → Text → Text → List PieceData
anchor before i after name = Markup before ∷ Number i ∷ Markup after ∷ Cut name 40 ∷ Markup (codes "</a>") ∷ []

-- A link that leads to the row of a build.
abbrev pub build_anchor : ℕ → ℕ → Text → List PieceData
build_anchor i n name =
    Markup (codes "<a href=#b") ∷ Number i ∷ Markup (codes "-") ∷ Number n ∷ Markup (codes ">") ∷ Cut name 40
    ∷ Markup (codes " ") ∷ Number n ∷ Markup (codes "</a>") ∷ []

-- The same by other words.
abbrev pub row_anchor : ℕ → ℕ → Text → List PieceData
row_anchor i n words =
    Markup (codes "<a href=#b") ∷ Number i ∷ Markup (codes "-") ∷ Number n ∷ Markup (codes ">") ∷ Shown words
    ∷ Markup (codes "</a>") ∷ []

-- A version in a few letters, and in full where the pointer rests on it.
abbrev pub version_pieces : Version → List PieceData
version_pieces v =
    Markup (codes "<code title=\"") ∷ Cut (string_bytes v.key) 160 ∷ Markup (codes "\">") ∷ Cut (string_bytes v.short) 18
    ∷ Markup (codes "</code>") ∷ []

-- The pieces of a word.
abbrev pub word_pieces : Word → List PieceData
word_pieces (word.Plain t) = Shown (string_bytes t) ∷ []
word_pieces (word.Text t most) = Cut (string_bytes t) most ∷ []
word_pieces (word.Name t most) = Isolated (string_bytes t) most ∷ []
word_pieces (word.Job i t) = anchor (codes "<a href=#j") i (codes ">") (string_bytes t)
word_pieces (word.Resource i t) = anchor (codes "<a href=#r") i (codes ">") (string_bytes t)
word_pieces (word.Build i n t) = build_anchor i n (string_bytes t)
word_pieces (word.Past t n) = Isolated (string_bytes t) 40 ∷ Markup (codes " ") ∷ Number n ∷ []
word_pieces (word.Row i n t) = row_anchor i n (string_bytes t)
word_pieces (word.Version v) = version_pieces v
word_pieces (word.Pin t) = Markup (codes "<code>") ∷ Cut (string_bytes t) 60 ∷ Markup (codes "</code>") ∷ []

-- A SENTENCE.
abbrev pub sentence : List Word → List PieceData
sentence ws = flat_map word_pieces ws
