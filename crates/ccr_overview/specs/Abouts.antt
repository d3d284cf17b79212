-- What is said of a job beside its name: its newest build, the newest good one with its versions, its next one, its inputs and its outputs.
use Rattle.std.specs.Prelude.{ℕ, List, [], ◌∷◌, ◌++◌, length, map, filter, nat_lt, ◌==◌, slice_get, find, Bool, true, false, Option, Some, None, option_and_then, if◌then◌else◌, codes, decimal}
use Rattle.std.specs.Option.{option_map_or}
use Rattle.ccr_history.specs.Text.{Text}
use Rattle.ccr_history.specs.Builds.{UsedData, BuildData, is_succeeded}
use Rattle.ccr_history.specs.History.{HistoryData}
use Rattle.ccr_pipeline.specs.Inputs.{InputData, inputs}
use Rattle.ccr_pipeline.specs.JobData.{ResourceData, JobData}
use Rattle.ccr_pipeline.specs.Names.{has_name}
use Rattle.ccr_pipeline.specs.Tree.{Tree, gathered}
use Rattle.ccr_lines.specs.Graphs.{own_put}
use Rattle.ccr_lines.specs.Lines.{status_word}
use Rattle.ccr_lines.specs.Live.{live_of}
use Rattle.ccr_lines.specs.Outlooks.{outlook_words}
use Rattle.ccr_lines.specs.declared.outlook.Outlook.{Outlook}
use Rattle.ccr_overview.specs.Holds.{resource_words}
use Rattle.ccr_overview.specs.Sayings.{separated, version_word}
use Rattle.ccr_overview.specs.PageData.{WordData, Plain, Named, ToResource, ToRow}
use Rattle.ccr_overview.specs.Each.{each_from}
use Rattle.ccr_overview.specs.Scenes.{SceneData, ToldData}
use Rattle.ccr_overview.specs.Shorts.{version_there}
use Rattle.ccr_overview.specs.Linked.{job_word}

-- ---- what a build took
-- a version that a build took, behind the others, with the input's name if it took several
abbrev pub took_word : HistoryData → Bool → ℕ → UsedData → List WordData
took_word h several k u =
    separated (codes ", ") k ++ resource_words several u.input ++ (version_word (version_there h u.scope u.place) u.place ∷ [])

-- the versions that a build took, if it took any
abbrev pub took_words : HistoryData → List UsedData → List WordData
took_words h us =
    if length us == 0 then [] else Plain (codes " with ") ∷ each_from (took_word h (nat_lt 1 (length us))) 0 us

-- ---- builds
-- a number, and how its build stands
abbrev pub build_standing : BuildData → Text
build_standing b = decimal b.number ++ (codes " " ++ status_word b.status)

-- how the newest build stands
abbrev pub newest_said : Option BuildData → Text
newest_said None = codes "no builds"
newest_said (Some b) = build_standing b

-- the newest build of the job at a position that succeeded, and what it took; or that none did
abbrev pub good_words : HistoryData → ℕ → Option BuildData → List WordData
good_words h k None = Plain (codes ", none succeeded") ∷ []
good_words h k (Some b) = Plain (codes ", ") ∷ ToRow k b.number (build_standing b) ∷ took_words h b.used

-- the same, where the newest build is another one; and where it isn't, what that one took
abbrev pub good_beside : HistoryData → Text → ℕ → Option BuildData → List WordData
good_beside h job k None = []
good_beside h job k (Some b) = if is_succeeded b.status then took_words h b.used else good_words h k (live_of job h)

-- ---- inputs and outputs
-- the jobs that an input names
abbrev pub passed_words : SceneData → ℕ → Text → List WordData
passed_words s k named = separated (codes ", ") k ++ (job_word s named ∷ [])

-- that an input's version has to have passed them, if there are any
abbrev pub after_words : SceneData → List Text → List WordData
after_words s [] = []
after_words s (named ∷ names) = Plain (codes " after ") ∷ each_from (passed_words s) 0 (named ∷ names)

-- that a new version makes no build
abbrev pub trigger_words : Bool → List WordData
trigger_words true = []
trigger_words false = Plain (codes " (no trigger)") ∷ []

-- an input
abbrev pub input_words : SceneData → ℕ → InputData → List WordData
input_words s k i =
    separated (codes "; ") k ++ (Named i.resource 40 ∷ []) ++ after_words s i.passed ++ trigger_words i.trigger

-- what a job takes
abbrev pub takes_words : SceneData → List InputData → List WordData
takes_words s [] = Plain (codes "takes nothing") ∷ []
takes_words s (i ∷ is) = Plain (codes "takes ") ∷ each_from (input_words s) 0 (i ∷ is)

-- the resource at a position, if the plan puts it
abbrev pub put_at : Tree → ℕ → ResourceData → List (ℕ × Text)
put_at plan k r = if has_name (gathered own_put plan) r.name then (k, r.name) ∷ [] else []

-- the resources that a plan puts, with their positions
abbrev pub puts_of : Tree → List ResourceData → List (ℕ × Text)
puts_of plan rs = each_from (put_at plan) 0 rs

-- a resource
abbrev pub put_word : ℕ → ℕ × Text → List WordData
put_word k r = separated (codes ", ") k ++ (ToResource r.0 r.1 ∷ [])

-- what a job puts, if it puts something
abbrev pub puts_words : List (ℕ × Text) → List WordData
puts_words [] = []
puts_words (r ∷ rs) = Plain (codes ". Puts ") ∷ each_from put_word 0 (r ∷ rs)

-- ---- all
-- what the next build would be
abbrev pub next_words : Outlook → List WordData
next_words o = Plain (codes "; " ++ (outlook_words o ++ codes "; ")) ∷ []

-- WHAT IS SAID OF THE JOB at a position, whose newest build is this one
abbrev pub about_words : SceneData → ℕ → ToldData → Option BuildData → List WordData
about_words s k t newest =
    (Plain (newest_said newest) ∷ []) ++ good_beside s.history t.job.name k newest ++ next_words t.explained.outlook
    ++ takes_words s (inputs t.job.plan) ++ puts_words (puts_of t.job.plan s.pipeline.resources)
