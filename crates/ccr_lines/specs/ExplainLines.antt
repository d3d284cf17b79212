-- What is said of a job's next build, as lines.
use Rattle.std.specs.Prelude.{ℕ, List, [], ◌∷◌, ◌++◌, flat_map, Option, Some, None, codes, decimal}
use Rattle.std.specs.Option.{option_map_or}
use Rattle.ccr_history.specs.Text.{Text}
use Rattle.ccr_history.specs.TextMap.{TextMap, key_text}
use Rattle.ccr_history.specs.declared.build.Status.{Status}
use Rattle.ccr_lines.specs.ExplainedData.{RefusalData, PassedData, TakenData, ExplainedData}
use Rattle.ccr_lines.specs.Lines.{line}
use Rattle.ccr_lines.specs.Outlooks.{outlook_words}
use Rattle.ccr_lines.specs.Stops.{stands_words}

-- a version's key
abbrev pub version_words : Option TextMap → Text
version_words found = option_map_or key_text found []

-- a build of a job
abbrev pub passed_words : PassedData → Text
passed_words b = b.job ++ option_map_or (λ n. codes " " ++ decimal n) b.build []

-- the builds behind the first
abbrev pub further_passed : List PassedData → Text
further_passed [] = []
further_passed (b ∷ bs) = codes ", " ++ (passed_words b ++ further_passed bs)

-- through which builds it passed; nothing where there are none
abbrev pub through_words : List PassedData → Text
through_words [] = []
through_words (b ∷ bs) = codes ": " ++ (passed_words b ++ further_passed bs)

-- a place that the input of this name doesn't take, and why
abbrev pub refusal_line : Text → RefusalData → Text
refusal_line name r =
    line (name ∷ codes " " ∷ decimal r.place ∷ codes " " ∷ version_words r.version ∷ codes ": " ∷ r.words ∷ [])

-- what an input takes, and the newer places that it doesn't
abbrev pub taken_lines : TakenData → Text
taken_lines t =
    line (t.name ∷ codes " " ∷ decimal t.place ∷ codes " " ∷ version_words t.version ∷ through_words t.passed ∷ [])
    ++ flat_map (refusal_line t.name) t.newer

-- the build that has the same versions already
abbrev pub last_words : Text → Option (ℕ × Status) → Text
last_words job None = []
last_words job (Some b) = codes ": " ++ (stands_words job b.0 b.1 ++ codes " with these")

-- why there is no choice, if it is said
abbrev pub why_lines : Option Text → Text
why_lines None = []
why_lines (Some words) = line (words ∷ [])

-- THE LINES of what is said of a job
abbrev pub explained_lines : ExplainedData → Text
explained_lines e =
    line (e.job ∷ codes ": " ∷ outlook_words e.outlook ∷ last_words e.job e.last ∷ [])
    ++ (flat_map (λ t. taken_lines t) e.inputs ++ why_lines e.why)
