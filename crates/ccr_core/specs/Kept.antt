-- What a history takes, over any list of events.
use Rattle.std.specs.Prelude.{◌≡◌, List, [], ◌∷◌, Option, Some, None, All, ⊤}
use Rattle.std.specs.List.{AllByRecursion}
use Rattle.ccr_history.specs.TextMap.{IsAscending}
use Rattle.ccr_history.specs.declared.build.Status.TheVariants.{Running}
use Rattle.ccr_history.specs.Builds.{BuildData, build_of}
use Rattle.ccr_history.specs.Changes.{EditData}
use Rattle.ccr_history.specs.History.{HistoryData, IsHistory}
use Rattle.ccr_pipeline.specs.Limits.{IsPlan}
use Rattle.ccr_pipeline.specs.Links.{AreLinked}
use Rattle.ccr_pipeline.specs.Pipelines.{PipelineData}
use Rattle.ccr_steps.specs.Asks.{AnswerData, pushed}
use Rattle.ccr_core.specs.Addressed.{AnswerTo, addressed}
use Rattle.ccr_core.specs.Edits.{AreEdits, AreTakenTo}
use Rattle.ccr_core.specs.Events.{EventData, set_pipeline, checked, schedule, trigger, answer, abort, pin, unpin, disable, enable, restart}
use Rattle.ccr_core.specs.Replies.{Replied}
use Rattle.ccr_core.specs.Seen.{AreThoseUsed}
use Rattle.ccr_core.specs.State.{RunningData, State, pipeline_of}
use Rattle.ccr_core.specs.Steps.{Step, Run}

-- what every pipeline that was read keeps: its plans keep their limits, and the resources and jobs that they name are
-- there
pub record IsPipeline (p : PipelineData) : Type 0 where
  pub plans : All (λ j. IsPlan j.plan) p.jobs
  pub linked : AreLinked p.resources p.jobs

-- a version that an answer brings has its keys in order; only an answer to a push brings one
abbrev pub IsAnswer : AnswerData → Type 0
IsAnswer (pushed v) = IsAscending v
IsAnswer x = ⊤

-- what an event keeps by what it says to a build, or, where it says nothing to one, by what it is
abbrev pub IsEventBy : Option AnswerTo → EventData → Type 0
IsEventBy (Some a) e = IsAnswer a.given
IsEventBy None (set_pipeline p) = IsPipeline p
IsEventBy None (checked resource vs) = AllByRecursion IsAscending vs
IsEventBy None (schedule job) = ⊤
IsEventBy None (trigger job) = ⊤
IsEventBy None (answer job number turn x) = ⊥
IsEventBy None (abort job number) = ⊥
IsEventBy None (pin resource p) = IsAscending p
IsEventBy None (unpin resource) = ⊤
IsEventBy None (disable resource place) = ⊤
IsEventBy None (enable resource place) = ⊤
IsEventBy None restart = ⊤

-- what every event keeps: a pipeline was read, and versions and pins have their keys in order
abbrev pub IsEvent : EventData → Type 0
IsEvent e = IsEventBy (addressed e) e

-- a state from which a run begins: its history is one, its pipeline was read, and nothing runs
pub record IsStart (s : State) : Type 0 where
  pub history : IsHistory s.history
  pub pipeline : IsPipeline (pipeline_of s)
  pub none_runs : s.running ≡ []

-- the steps of these events, one after another, each with its edits: the history takes them by then, and the one after
-- the step is the one before it, changed by exactly these
abbrev pub AreTaken : State → List EventData → List Replied → List (List EditData) → State → Type 0
AreTaken s [] [] [] after = after ≡ s
AreTaken s (e ∷ es) (r ∷ rs) (edits ∷ more) after =
    (mid : State) × Step s e r mid × AreEdits s e r edits × AreTakenTo s edits mid × AreTaken mid es rs more after
AreTaken s es rs more after = ⊥

-- the history has the build as one that runs, and its inputs are the versions at the places that it used
abbrev pub IsKeptBy : HistoryData → RunningData → Type 0
IsKeptBy h b =
    (c : BuildData) × (build_of b.job b.number h.builds ≡ Some c) × (c.status ≡ Running)
    × AreThoseUsed h.tables c.used b.inputs

-- EACH CHANGE IS TAKEN: the conditions of a history's changes hold whenever a step makes one, and no limit refuses it.
-- So what each build used are places of the tables, and what it moved too, each once. What runs does so in the history,
-- with the versions that it used.
abbrev pub EachChangeIsTaken : Type 0
EachChangeIsTaken =
    (s after : State) (es : List EventData) (rs : List Replied)
    → IsStart s → AllByRecursion IsEvent es → Run s es rs after
    → ((changes : List (List EditData)) × AreTaken s es rs changes after)
    × AllByRecursion (IsKeptBy after.history) after.running

-- A STEP HAS ONE CHANGE: whichever edits are a step's, they are these
abbrev pub EachChangeIsOne : Type 0
EachChangeIsOne =
    (s : State) (e : EventData) (r : Replied) (edits others : List EditData)
    → AreEdits s e r edits → AreEdits s e r others → edits ≡ others
