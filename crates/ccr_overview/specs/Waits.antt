-- Why no choice of versions satisfies a job's inputs, by what `explain` says.
use Rattle.std.specs.Prelude.{ℕ, List, [], ◌∷◌, ◌++◌, length, Bool, ◌==◌, Option, Some, None, option_map, unwrap_or, if◌then◌else◌, codes}
use Rattle.std.specs.Str.{bytes_eq}
use Rattle.ccr_history.specs.Text.{Text}
use Rattle.ccr_history.specs.Tables.{versions_at}
use Rattle.ccr_pipeline.specs.Inputs.{InputData}
use Rattle.ccr_problem.specs.ProblemOf.{history_number}
use Rattle.ccr_overview.specs.Clashes.{behind_clash}
use Rattle.ccr_overview.specs.Each.{first_of}
use Rattle.ccr_overview.specs.Linked.{job_word}
use Rattle.ccr_overview.specs.PageData.{WordData, Plain, Cut, Named}
use Rattle.ccr_overview.specs.Scenes.{SceneData}

-- ---- the words of `explain`
-- no version that the input of this name has passed the job of this name
abbrev pub unpassed_said : Text → Text → Text
unpassed_said input job = codes "clash: " ++ (input ++ (codes " passed " ++ job))

-- no version is allowed to it
abbrev pub lacking_said : Text → Text
lacking_said input = codes "clash: " ++ (input ++ codes " takes an allowed version")

-- no version that is allowed to it has passed the job
abbrev pub unallowed_said : Text → Text → Text
unallowed_said input job =
    codes "clash: " ++ (input ++ (codes " takes an allowed version, " ++ (input ++ (codes " passed " ++ job))))

-- ---- one input
-- which versions haven't passed a job that an input names, if the words say so of the two
abbrev pub unpassed_here : Text → Text → Text → Option Text
unpassed_here words input job =
    if bytes_eq (unpassed_said input job) words then Some (codes " has passed ")
    else (if bytes_eq (unallowed_said input job) words then Some (codes " that is allowed has passed ") else None)

-- that no version of an input's resource has passed a job
abbrev pub unpassed_words : SceneData → InputData → Text → Text → List WordData
unpassed_words s i named said =
    Plain (codes "waits: no version of ") ∷ Named i.resource 40 ∷ Plain said ∷ job_word s named ∷ []

-- the same, if the words say so
abbrev pub wait_for : SceneData → Text → InputData → Text → Option (List WordData)
wait_for s words i named = option_map (unpassed_words s i named) (unpassed_here words i.name named)

-- the same of the first of these jobs of which they say so
abbrev pub wait_among : SceneData → Text → InputData → List Text → Option (List WordData)
wait_among s words i names = first_of (wait_for s words i) names

-- that an input has no version to take: there is none yet, or none is left
abbrev pub lacking_words : SceneData → InputData → List WordData
lacking_words s i =
    if length (versions_at (history_number s.pipeline s.history i.resource) s.history.tables) == 0
    then Plain (codes "waits: ") ∷ Named i.resource 40 ∷ Plain (codes " has no version yet") ∷ []
    else Plain (codes "can't be built: pins and disabled versions leave no version of ") ∷ Named i.resource 40 ∷ []

-- what an input waits for, if the words say that it waits
abbrev pub wait_of : SceneData → Text → InputData → Option (List WordData)
wait_of s words i =
    if bytes_eq (lacking_said i.name) words then Some (lacking_words s i) else wait_among s words i i.passed

-- the same of the first of these inputs of which they say so
abbrev pub waits : SceneData → Text → List InputData → Option (List WordData)
waits s words is = first_of (wait_of s words) is

-- ---- all
-- that there is no choice of versions: demands exclude each other, or these words
abbrev pub unmet_all : Text → Option Text → List WordData
unmet_all words None = Plain (codes "can't be built: ") ∷ Cut words 400 ∷ []
unmet_all words (Some demands) = Plain (codes "can't be built: these can't all hold: ") ∷ Cut demands 400 ∷ []

-- the same, unless an input waits
abbrev pub said_words : SceneData → List InputData → Text → List WordData
said_words s is words = unwrap_or (waits s words is) (unmet_all words (behind_clash words))

-- WHY NOTHING SATISFIES THESE INPUTS of a job
abbrev pub none_words : SceneData → List InputData → Option Text → List WordData
none_words s is None = Plain (codes "can't be built") ∷ []
none_words s is (Some words) = said_words s is words
