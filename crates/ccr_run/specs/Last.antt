-- What is told last, of all that was printed and told.
use Rattle.std.specs.Prelude.{◌≡◌, ◌-◌, List, [], ◌∷◌, ◌++◌, length, take, drop, codes, nat_eq, Option, None, Some, Bool, not, ◌&&◌, ◌||◌, if◌then◌else◌}
use Rattle.std.specs.Cmp.Lexicographic.{pointwise}
use Rattle.std.specs.List.{list_any, starts_with}
use Rattle.std.specs.Str.{IsUtf8}
use Rattle.ccr_history.specs.Text.{Text}
use Rattle.ccr_run.specs.Heard.{HeardData}
use Rattle.ccr_run.specs.Kept.{KeptData}
use Rattle.ccr_run.specs.Typed.{has_word}
use Rattle.ccr_run.specs.Writers.{WriterData, GetsLines}

-- ---- builds that errored
-- what stands behind the last line end in the rest of a text, or else this
abbrev pub behind_last : Text → Text → Text
behind_last line [] = line
behind_last line (b ∷ bs) = if nat_eq b 10 then behind_last bs bs else behind_last line bs

-- the last line of a text
abbrev pub last_line : Text → Text
last_line text = behind_last text text

-- how the line of a build ends that errored
abbrev pub errored_words : Text
errored_words = codes " errored" ++ 10 ∷ []

-- what stands before such an end
abbrev pub before_errored : Text → Text
before_errored text = take (length text - length errored_words) text

-- the build that errored by the last line of a text, if one did
abbrev pub errored_in : Text → Option Text
errored_in text =
    if pointwise nat_eq (drop (length text - length errored_words) text) errored_words
    then Some (last_line (before_errored text)) else None

-- a line is about a build
abbrev pub is_about : Text → Text → Bool
is_about build note =
    pointwise nat_eq (take (length build) note) build && starts_with nat_eq (drop (length build) note) (codes ": ")

-- some line is
abbrev pub is_noted : List Text → Text → Bool
is_noted notes build = list_any (is_about build) notes

-- this build, if there is one and no line is about it, or else the other
abbrev pub or_silent : List Text → Option Text → Option Text → Option Text
or_silent notes None other = other
or_silent notes (Some build) other = if is_noted notes build then other else Some build

-- the first build that errored by one of these texts, and that no line is about
abbrev pub silent_in : List Text → List Text → Option Text
silent_in notes [] = None
silent_in notes (t ∷ ts) = or_silent notes (errored_in t) (silent_in notes ts)

-- the same, if none of the texts was lost
abbrev pub silent_build : KeptData → KeptData → Option Text
silent_build printed noted = if printed.is_lost || noted.is_lost then None else silent_in noted.texts printed.texts

-- the line about it
abbrev pub silent_line : Text → Text
silent_line build = codes "hint: " ++ (build ++ codes ": no line says why it errored. A task may have an input that no step before it gives: of the pipeline's own tasks ccr_run validate-pipeline FILE names it; of a task's file, compare its inputs with the gets and outputs before it")

-- its lines, if there is one
abbrev pub silent_lines : Option Text → List Text
silent_lines None = []
silent_lines (Some build) = silent_line build ∷ []

-- bytes are read as a text: they are it, or they aren't in UTF-8
abbrev pub AreRead : Option Text → Option Text → Type 0
AreRead None read = read ≡ None
AreRead (Some bytes) (Some text) = text ≡ bytes
AreRead (Some bytes) None = ¬ (IsUtf8 bytes)

-- ---- versions that nothing is known of
-- about a trace that shows nothing
abbrev pub untraced_line : Text
untraced_line = codes "hint: no build has taken or moved this version: resource-versions NAME shows which there are, and how they are written"

-- a trace was done, and nothing was printed
abbrev pub is_untraced : List Text → Bool → HeardData → Bool
is_untraced words is_done printed = is_done && (not printed.is_used && has_word (codes "trace") words)

-- the line about it
abbrev pub untraced_lines : List Text → Bool → HeardData → List Text
untraced_lines words is_done printed = if is_untraced words is_done printed then untraced_line ∷ [] else []

-- WHAT IS TOLD LAST, by what was printed and what was told beside it
abbrev pub TellsLast : List Text → Bool → HeardData → HeardData → WriterData → WriterData → Type 0
TellsLast words is_done printed noted old new =
    (build : Option Text) × AreRead (silent_build printed.kept noted.kept) build
    × GetsLines (silent_lines build ++ untraced_lines words is_done printed) old new
