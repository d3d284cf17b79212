-- Texts as lines of words, in the one spelling that all formats share: problem, claim and proof.
use Rattle.std.specs.Prelude.{ℕ, zero, suc, ◌+◌, ◌-◌, ◌*◌, ◌<◌, ◌^◌, List, [], ◌∷◌, ◌++◌, length, map, ◌&&◌, ◌==◌, nat_lt, Option, Some, None, if◌then◌else◌, codes}
use Rattle.std.specs.List.{slice_split, join_with_byte, flat_map}
use Rattle.std.specs.Str.{bytes_eq}
use Rattle.std.specs.Fmt.{decimal}
use Rattle.std.specs.Char.{is_ascii_digit}
use Rattle.ccr_choice.specs.declared.word.Word.{Word}
use Rattle.ccr_choice.specs.declared.word.Word.TheVariants.{Number, Problem, Inputs, Jobs, After, Places, Builds, Pairs, Proof, Best, Nothing, Job, Empty, Bounded, Same, Other}

-- ---- writing
-- How a word is spelled: a number in decimal digits without a leading zero, a keyword by its name.
abbrev pub spelled : Word → List ℕ
spelled (Number n) = decimal n
spelled Problem = codes "problem"
spelled Inputs = codes "inputs"
spelled Jobs = codes "jobs"
spelled After = codes "after"
spelled Places = codes "places"
spelled Builds = codes "builds"
spelled Pairs = codes "pairs"
spelled Proof = codes "proof"
spelled Best = codes "best"
spelled Nothing = codes "none"
spelled Job = codes "job"
spelled Empty = codes "empty"
spelled Bounded = codes "bounded"
spelled Same = codes "same"
spelled Other = []

-- A line is its words with one blank between two of them, and a line feed.
abbrev pub line_text : List Word → List ℕ
line_text ws = join_with_byte 32 (map spelled ws) ++ 10 ∷ []

-- A text is its lines, one after the other.
abbrev pub text_of : List (List Word) → List ℕ
text_of ls = flat_map line_text ls

-- What has a spelling: numbers below 2 ^ 32, and keywords.
abbrev pub IsWord : Word → Type 0
IsWord (Number n) = n < 2 ^ 32
IsWord Other = ⊥
IsWord w = Unit {0}

-- ---- reading
-- The number that these digits make behind n, while it stays below 2 ^ 32.
abbrev pub value_after : ℕ → List ℕ → Option ℕ
value_after n [] = Some n
value_after n (c ∷ cs) =
    if is_ascii_digit c && nat_lt (n * 10 + (c - 48)) 4294967296 then value_after (n * 10 + (c - 48)) cs else None

-- The number that bytes spell: digits, where a 0 stands first only alone.
unfoldable pub number_of : List ℕ → Option ℕ
number_of [] = None
number_of (c ∷ cs) = if c == 48 && nat_lt 0 (length cs) then None else value_after 0 (c ∷ cs)

-- The keyword that bytes spell, or Other.
unfoldable pub keyword_of : List ℕ → Word
keyword_of bs =
    if bytes_eq bs (codes "problem") then Problem else
    (if bytes_eq bs (codes "inputs") then Inputs else
    (if bytes_eq bs (codes "jobs") then Jobs else
    (if bytes_eq bs (codes "after") then After else
    (if bytes_eq bs (codes "places") then Places else
    (if bytes_eq bs (codes "builds") then Builds else
    (if bytes_eq bs (codes "pairs") then Pairs else
    (if bytes_eq bs (codes "proof") then Proof else
    (if bytes_eq bs (codes "best") then Best else
    (if bytes_eq bs (codes "none") then Nothing else
    (if bytes_eq bs (codes "job") then Job else
    (if bytes_eq bs (codes "empty") then Empty else
    (if bytes_eq bs (codes "bounded") then Bounded else
    (if bytes_eq bs (codes "same") then Same else Other)))))))))))))

abbrev pub number_or_keyword : Option ℕ → List ℕ → Word
number_or_keyword (Some n) bs = Number n
number_or_keyword None bs = keyword_of bs

-- The word that bytes spell.
unfoldable pub word_of : List ℕ → Word
word_of bs = number_or_keyword (number_of bs) bs

-- The words of a line: its parts between blanks.
unfoldable pub words_of : List ℕ → List Word
words_of line = map word_of (slice_split (λ b. b == 32) line)

-- A last line without its line feed is read as a line of one word that no format has.
abbrev pub unended : List Word
unended = Other ∷ []

-- The lines that the parts between line feeds make; behind the last line feed stands nothing, or a line that isn't
-- ended.
abbrev pub lines_from : List (List ℕ) → List (List Word)
lines_from [] = []
lines_from (x ∷ []) = if length x == 0 then [] else unended ∷ []
lines_from (x ∷ y ∷ more) = words_of x ∷ lines_from (y ∷ more)

-- The lines of a text, as their words.
unfoldable pub lines_of : List ℕ → List (List Word)
lines_of bs = lines_from (slice_split (λ b. b == 10) bs)

-- ---- cutting
-- The first n lines of a text, with their line feeds.
abbrev pub first_lines : ℕ → List ℕ → List ℕ
first_lines zero bs = []
first_lines (suc n) [] = []
first_lines (suc n) (b ∷ bs) = b ∷ (if b == 10 then first_lines n bs else first_lines (suc n) bs)

-- How many lines of a text have their line feed.
abbrev pub ended_lines : List ℕ → ℕ
ended_lines [] = 0
ended_lines (b ∷ bs) = (if b == 10 then 1 else 0) + ended_lines bs
