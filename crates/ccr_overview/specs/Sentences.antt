-- Why a job stands still, in a sentence: a table over what `explain` says, and how the newest build stands.
use Rattle.std.specs.Prelude.{ℕ, ◌-◌, List, [], ◌∷◌, ◌++◌, length, map, flat_map, filter, find, slice_get, Bool, true, false, not, ◌&&◌, ◌==◌, nat_lt, Option, Some, None, option_and_then, if◌then◌else◌, codes, decimal}
use Rattle.std.specs.Option.{option_map_or}
use Rattle.std.specs.Str.{bytes_eq}
use Rattle.ccr_history.specs.Text.{Text}
use Rattle.ccr_history.specs.Builds.{UsedData, BuildData}
use Rattle.ccr_history.specs.History.{HistoryData}
use Rattle.ccr_history.specs.declared.build.Status.{Status}
use Rattle.ccr_history.specs.declared.build.Status.TheVariants.{Running, Succeeded, Failed, Errored, Aborted}
use Rattle.ccr_pipeline.specs.Inputs.{InputData, inputs}
use Rattle.ccr_pipeline.specs.JobData.{JobData}
use Rattle.ccr_lines.specs.ExplainedData.{TakenData, ExplainedData}
use Rattle.ccr_lines.specs.Lines.{status_word}
use Rattle.ccr_lines.specs.Live.{live_of}
use Rattle.ccr_lines.specs.Releases.{is_pair}
use Rattle.ccr_lines.specs.declared.outlook.Outlook.{Outlook}
use Rattle.ccr_lines.specs.declared.outlook.Outlook.TheVariants.{Due, NothingNew, ByCommandOnly, NoneSatisfies, OverBudget}
use Rattle.ccr_page.specs.declared.data.Urgency.{Urgency}
use Rattle.ccr_page.specs.declared.data.Urgency.TheVariants as urgency
use Rattle.ccr_overview.specs.Sayings.{version_word}
use Rattle.ccr_overview.specs.PageData.{WordData, Plain, Cut, Named, ToRow, WhyData}
use Rattle.ccr_overview.specs.Each.{each_from}
use Rattle.ccr_overview.specs.PageRows.{used_for}
use Rattle.ccr_overview.specs.Scenes.{SceneData, ToldData}
use Rattle.ccr_overview.specs.Shorts.{version_there}
use Rattle.ccr_overview.specs.Holds.{HoldData, resource_words, hold_words, holds, worst, told_holds}
use Rattle.ccr_overview.specs.Stopping.{pair_of}
use Rattle.ccr_overview.specs.Waits.{none_words}

-- ---- the next build
-- the newest build of the job at a position
abbrev pub build_row : ℕ → BuildData → WordData
build_row k b = ToRow k b.number (codes "build " ++ decimal b.number)

-- that it runs
abbrev pub running_why : ℕ → BuildData → WhyData
running_why k b = record { urgency = urgency.Going; words = Plain (codes "is running ") ∷ build_row k b ∷ [] }

-- the only thing of a list, if it has only one
abbrev pub only : {X : Type 0} → List X → Option X
only xs = if length xs == 1 then slice_get xs 0 else None

-- that a build is due, with what its only input takes, if it has only one
abbrev pub due_of : Option TakenData → List WordData
due_of (Some t) = Plain (codes "is due: the next round builds ") ∷ version_word t.version t.place ∷ []
due_of None = Plain (codes "is due in the next round") ∷ []

-- that a build is due
abbrev pub due_words : List TakenData → List WordData
due_words ts = due_of (only ts)

-- that there is no choice of versions, and why
abbrev pub none_why : SceneData → ToldData → WhyData
none_why s t = record { urgency = urgency.Stopped; words = none_words s (inputs t.job.plan) t.explained.why }

-- that the search went over the budget
abbrev pub budget_words : List WordData
budget_words = Plain (codes "isn't decided: the search goes over the budget; --budget N allows more") ∷ []

-- ---- what holds it
-- a build took for an input the version that the next build would take
abbrev pub took_same : SceneData → TakenData → Option UsedData → Bool
took_same s t None = false
took_same s t (Some u) = is_pair (pair_of s t t.place) (u.scope, u.place)

-- AN INPUT STAYS at a version if the newest good build took for it what the next build would take
abbrev pub stays : SceneData → TakenData → Option BuildData → Bool
stays s t None = false
stays s t (Some b) = took_same s t (used_for b t.name)

-- the words before what holds an input: the first, and each other. What doesn't stay would be taken by the next build
abbrev pub start_words : Bool → Bool → ℕ → Text
start_words true true k = if k == 0 then codes "stays at " else codes "; stays at "
start_words true false k = if k == 0 then codes "would take " else codes "; would take "
start_words false same k =
    if k == 0 then codes "is built by command only; the next build would take " else codes "; "

-- what holds an input of a job with this newest good build, behind the others; nothing behind the first three
abbrev pub told_hold : SceneData → Option BuildData → Bool → Bool → ℕ → HoldData → List WordData
told_hold s live several by_itself k h =
    if nat_lt k 3 then Plain (start_words by_itself (stays s h.taken live) k) ∷ hold_words s several h else []

-- that there are more, if there are
abbrev pub more_words : ℕ → List WordData
more_words more = if more == 0 then [] else Plain (codes "; and " ++ (decimal more ++ codes " more")) ∷ []

-- what holds the inputs: the first three
abbrev pub holds_words : SceneData → Option BuildData → Bool → Bool → List HoldData → List WordData
holds_words s live several by_itself hs =
    each_from (told_hold s live several by_itself) 0 hs ++ more_words (length hs - 3)

-- ---- a build that wasn't good
-- it failed, errored or was aborted
abbrev pub is_bad : Status → Bool
is_bad Running = false
is_bad Succeeded = false
is_bad Failed = true
is_bad Errored = true
is_bad Aborted = true

-- what a build took for the input that makes builds by itself, if only one of these does
abbrev pub took_on : BuildData → List InputData → Option UsedData
took_on b is = option_and_then (λ i. used_for b i.name) (only (filter (λ i. i.trigger) is))

-- the version on which a build wasn't good, with the input's name if the build had several inputs
abbrev pub on_words : HistoryData → Bool → Option UsedData → List WordData
on_words h several None = []
on_words h several (Some u) =
    Plain (codes " on ") ∷ (resource_words several u.input ++ (version_word (version_there h u.scope u.place) u.place ∷ []))

-- the build, and how it stands
abbrev pub stopped_words : ℕ → BuildData → List WordData
stopped_words k b = Plain (codes "stopped: ") ∷ build_row k b ∷ Plain (codes " " ++ status_word b.status) ∷ []

-- the same, and on which version
abbrev pub bad_words : HistoryData → ℕ → JobData → BuildData → List WordData
bad_words h k j b = stopped_words k b ++ on_words h (nat_lt 1 (length b.used)) (took_on b (inputs j.plan))

-- that nothing holds an input of the job
abbrev pub alone_words : Bool → Text
alone_words true = codes ", and nothing newer has come"
alone_words false = codes ", and only a command makes the next"

-- WHAT ELSE HOLDS IT, pins and disabled versions included; only where nothing holds an input, that nothing does
abbrev pub beside_words : SceneData → Option BuildData → Bool → List TakenData → List HoldData → List WordData
beside_words s live by_itself ts hs =
    if length hs == 0 then Plain (alone_words by_itself) ∷ []
    else Plain (codes "; ") ∷ holds_words s live (nat_lt 1 (length ts)) by_itself (told_holds hs)

-- that its newest build wasn't good
abbrev pub bad_why : SceneData → ℕ → ToldData → Bool → BuildData → WhyData
bad_why s k t by_itself b =
    let ts : List TakenData = t.explained.inputs in
    let live : Option BuildData = live_of t.job.name s.history in
    record {
      urgency = urgency.Stopped;
      words = bad_words s.history k t.job b ++ beside_words s live by_itself ts (holds s ts);
    }

-- what holds its inputs, if something does
abbrev pub held_by : SceneData → Option BuildData → Bool → List TakenData → List HoldData → Option WhyData
held_by s live by_itself ts hs =
    if length hs == 0 then None
    else Some (record {
      urgency = worst hs;
      words = holds_words s live (nat_lt 1 (length ts)) by_itself (told_holds hs);
    })

-- the same
abbrev pub held_why : SceneData → Bool → ToldData → Option WhyData
held_why s by_itself t =
    held_by s (live_of t.job.name s.history) by_itself t.explained.inputs (holds s t.explained.inputs)

-- why it has no newer build, where its newest one has ended so
abbrev pub ended_why : SceneData → ℕ → ToldData → Bool → BuildData → Option WhyData
ended_why s k t by_itself b =
    if is_bad b.status then Some (bad_why s k t by_itself b) else held_why s by_itself t

-- the same of a job that may have no build: nothing is said of one that only a command builds
abbrev pub standing_why : SceneData → ℕ → ToldData → Bool → Option BuildData → Option WhyData
standing_why s k t by_itself (Some b) = ended_why s k t by_itself b
standing_why s k t true None = held_why s true t
standing_why s k t false None = None

-- ---- the table
-- why a job has no newer build, by what its next build would be
abbrev pub outlook_why : SceneData → ℕ → ToldData → Option BuildData → Outlook → Option WhyData
outlook_why s k t newest Due = Some (record { urgency = urgency.Going; words = due_words t.explained.inputs })
outlook_why s k t newest NothingNew = standing_why s k t true newest
outlook_why s k t newest ByCommandOnly = standing_why s k t false newest
outlook_why s k t newest NoneSatisfies = Some (none_why s t)
outlook_why s k t newest (OverBudget n) = Some (record { urgency = urgency.Stopped; words = budget_words })

-- the same, unless its newest build runs
abbrev pub status_why : SceneData → ℕ → ToldData → BuildData → Status → Option WhyData
status_why s k t b Running = Some (running_why k b)
status_why s k t b Succeeded = outlook_why s k t (Some b) t.explained.outlook
status_why s k t b Failed = outlook_why s k t (Some b) t.explained.outlook
status_why s k t b Errored = outlook_why s k t (Some b) t.explained.outlook
status_why s k t b Aborted = outlook_why s k t (Some b) t.explained.outlook

-- WHY THE JOB at a position stands still, whose newest build is this one
abbrev pub why_of : SceneData → ℕ → ToldData → Option BuildData → Option WhyData
why_of s k t None = outlook_why s k t None t.explained.outlook
why_of s k t (Some b) = status_why s k t b b.status
