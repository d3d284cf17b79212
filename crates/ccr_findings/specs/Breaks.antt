-- Where a text stops being JSON, as it is shown: by line and column, and by the line itself with a mark.
use Rattle.std.specs.Prelude.{ℕ, ◌+◌, ◌-◌, max, min, List, [], ◌∷◌, ◌++◌, length, take, drop, ◌&&◌, ◌||◌, ◌==◌, Bool, Option, Some, None, nat_le, nat_lt, codes, decimal, if◌then◌else◌}
use Rattle.std.specs.List.{flat_map}
use Rattle.ccr_pipeline.specs.Tree.{Text}
use Rattle.ccr_findings.specs.declared.broken.TheConstants.{BEFORE, AFTER}

-- the second byte and those after it of a letter that takes several
abbrev pub is_further : ℕ → Bool
is_further c = nat_le 128 c && nat_lt c 192

-- a byte as it is shown: a control byte as a space, and a letter beyond ASCII as one `?`
abbrev pub plain : ℕ → Text
plain c = if nat_lt c 32 then 32 ∷ [] else (if nat_lt c 127 then c ∷ [] else (if is_further c then [] else 63 ∷ []))

-- what stands below it
abbrev pub blank : ℕ → Text
blank c = if is_further c then [] else 32 ∷ []

-- how many lines end in bytes
abbrev pub line_ends : List ℕ → ℕ
line_ends [] = 0
line_ends (c ∷ cs) = (if c == 10 then 1 else 0) + line_ends cs

-- how many letters they have
abbrev pub letters_in : List ℕ → ℕ
letters_in [] = 0
letters_in (c ∷ cs) = (if is_further c then 0 else 1) + letters_in cs

-- where the last line of bytes begins, if the bytes are those from position i on, and the line of those before began at b
abbrev pub line_begin : ℕ → ℕ → List ℕ → ℕ
line_begin b i [] = b
line_begin b i (c ∷ cs) = line_begin (if c == 10 then i + 1 else b) (i + 1) cs

-- the rest of a line, as it is shown
abbrev pub line_rest : List ℕ → Text
line_rest [] = []
line_rest (c ∷ cs) = if c == 10 then [] else plain c ++ line_rest cs

-- what is before a position in its line, but no more than so many bytes
abbrev pub shown_from : List ℕ → ℕ
shown_from before = max (line_begin 0 0 before) (length before - BEFORE)

-- the line and the column of a position, both from 1 on; columns count letters
abbrev pub position : List ℕ → Text
position before =
    codes "not JSON at line " ++ (decimal (line_ends before + 1) ++ (codes ", column "
    ++ decimal (letters_in (drop (line_begin 0 0 before) before) + 1)))

-- the text around the position between these bytes, in its line
abbrev pub shown_line : List ℕ → List ℕ → Text
shown_line before after =
    flat_map plain (drop (shown_from before) before) ++ line_rest (take (min (length after) AFTER) after)

-- the line below it, with a mark
abbrev pub mark_line : List ℕ → Text
mark_line before = flat_map blank (drop (shown_from before) before) ++ codes "^"

-- a byte of white space
abbrev pub is_space : ℕ → Bool
is_space c = c == 32 || (c == 9 || (c == 13 || c == 10))

-- the first byte of a text that isn't white space
abbrev pub first_of : List ℕ → Option ℕ
first_of [] = None
first_of (c ∷ cs) = if is_space c then first_of cs else Some c

-- what is said of a text that begins so: a pipeline is an object
abbrev pub begin_words : ℕ → Text
begin_words c = if c == 123 then [] else
    codes ": a pipeline begins with {; examples/operating/pipeline-json FILE makes JSON of YAML"

-- the lines of the position between these bytes, in a text that has this first byte: line and column, the text around it in
-- its line, and a mark below; or the one of a text that has none
abbrev pub lines_between : Option ℕ → List ℕ → List ℕ → List Text
lines_between None before after = codes "not JSON at line 1, column 1: the file is empty" ∷ []
lines_between (Some c) before after =
    (position before ++ begin_words c) ∷ shown_line before after ∷ mark_line before ∷ []

-- THE LINES OF A POSITION IN A TEXT
abbrev pub break_lines : List ℕ → ℕ → List Text
break_lines bytes at = lines_between (first_of bytes) (take at bytes) (drop at bytes)
