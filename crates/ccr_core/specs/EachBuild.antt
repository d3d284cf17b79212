-- What is true of each build, after any list of events.
use Rattle.std.specs.Prelude.{◌≡◌, ◌≢◌, ℕ, List, [], ◌∷◌, ◌++◌, Some}
use Rattle.std.specs.List.{AllByRecursion}
use Rattle.ccr_history.specs.Text.{Text}
use Rattle.ccr_history.specs.Builds.{BuildData, build_of, by_place, passed_pairs}
use Rattle.ccr_history.specs.Changes.{AreMoved}
use Rattle.ccr_history.specs.declared.build.Status.TheVariants.{Running, Errored}
use Rattle.ccr_pipeline.specs.JobData.{JobData}
use Rattle.ccr_pipeline.specs.Pipelines.{PipelineData}
use Rattle.ccr_steps.specs.Asks.{AnswerData}
use Rattle.ccr_steps.specs.Gains.{GainsData, no_gains}
use Rattle.ccr_steps.specs.Means.{Means}
use Rattle.ccr_steps.specs.Progress.{IsAllowed, Begins, answers}
use Rattle.ccr_steps.specs.declared.outcome.Outcome.{Outcome}
use Rattle.ccr_steps.specs.declared.outcome.Outcome.TheVariants.{Succeeded}
use Rattle.ccr_problem.specs.ProblemOf.{job_of}
use Rattle.ccr_core.specs.Builds.{status_of}
use Rattle.ccr_core.specs.Events.{EventData, restart}
use Rattle.ccr_core.specs.Kept.{IsEvent, IsStart}
use Rattle.ccr_core.specs.Own.{own}
use Rattle.ccr_core.specs.Replies.{Replied}
use Rattle.ccr_core.specs.Seen.{AreThoseUsed, pairs_of}
use Rattle.ccr_core.specs.State.{RunningData, State, pipeline_of, running_at}
use Rattle.ccr_core.specs.Steps.{Step, Run}

-- ---- builds that run
-- the build's plan is that of the job of its name
abbrev pub IsPlanned : PipelineData → RunningData → Type 0
IsPlanned p b = (j : JobData) × (job_of b.job p.jobs ≡ Some j) × (b.plan ≡ j.plan)

-- a build that runs has had these answers and no others: its exchanges begin a list that its job's plan allows, and
-- aren't whole
pub record HasItsOwn (p : PipelineData) (xs : List AnswerData) (b : RunningData) : Type 0 where
  pub answered : answers b.exchanges ≡ xs
  pub planned : IsPlanned p b
  pub begins : Begins b.inputs b.plan b.exchanges
  pub waits : IsAllowed b.inputs b.plan b.exchanges → ⊥

-- EACH BUILD THAT RUNS has had its own answers and no others, whatever events stood between
abbrev pub EachHasItsOwn : Type 0
EachHasItsOwn =
    (s after : State) (es : List EventData) (rs : List Replied) → s.running ≡ [] → Run s es rs after
    → AllByRecursion (λ b. HasItsOwn (pipeline_of after) (own b.job b.number es rs) b) after.running

-- ---- builds that ended
-- the history has the job's build of this number, and it has ended
abbrev pub HasEnded : State → Text → ℕ → Type 0
HasEnded s job number = (c : BuildData) × (build_of job number s.history.builds ≡ Some c) × (c.status ≢ Running)

-- with this step the build has ended, and before it hadn't
abbrev pub EndsIn : State → State → BuildData → Type 0
EndsIn before after c =
    (build_of c.job c.number after.history.builds ≡ Some c) × (c.status ≢ Running)
    × ¬ HasEnded before c.job c.number

-- a build that ended had these answers and no others: its exchanges are a whole list that its job's plan allows for the
-- versions that it used, its status and its moved pairs are what they mean, each pair once and a place of the tables,
-- and only if it succeeded it has passed anything
pub record EndsAsMeant (after : State) (xs : List AnswerData) (c : BuildData) : Type 0 where
  pub run : RunningData
  pub outcome : Outcome
  pub gains : GainsData
  pub is_job : run.job ≡ c.job
  pub is_number : run.number ≡ c.number
  pub planned : IsPlanned (pipeline_of after) run
  pub used : AreThoseUsed after.history.tables c.used run.inputs
  pub answered : answers run.exchanges ≡ xs
  pub meant : Means run.inputs run.plan no_gains run.exchanges outcome gains
  pub status : c.status ≡ status_of outcome
  pub moved : c.moved ≡ by_place (pairs_of (pipeline_of after) after.history gains.moved)
  pub once : AreMoved after.history.tables (pairs_of (pipeline_of after) after.history gains.moved)
  pub passed : outcome ≢ Succeeded → passed_pairs c ≡ []

-- EACH BUILD THAT ENDS, other than by a restart, had its own answers and no others, and ends as its plan means
abbrev pub EachEndsAsMeant : Type 0
EachEndsAsMeant =
    (s before after : State) (es : List EventData) (rs : List Replied) (e : EventData) (r : Replied)
    → IsStart s → AllByRecursion IsEvent es → Run s es rs before → Step before e r after → e ≢ restart
    → (c : BuildData) → EndsIn before after c
    → EndsAsMeant after (own c.job c.number (es ++ e ∷ []) (rs ++ r ∷ [])) c

-- A RESTART cuts short what runs: a build that ends so is errored, and has moved nothing
abbrev pub EachIsCutShort : Type 0
EachIsCutShort =
    (before after : State) (r : Replied) → Step before restart r after
    → (c : BuildData) → EndsIn before after c → (c.status ≡ Errored) × (c.moved ≡ [])

-- ---- two runs
-- TWO RUNS in which a build has the same plan, the same input versions and the same answers of its own give it the same
-- exchanges, whatever else they do
abbrev pub RunsAgree : Type 0
RunsAgree =
    (s after t later : State) (es fs : List EventData) (rs us : List Replied)
    (job : Text) (number : ℕ) (other : Text) (number' : ℕ) (b c : RunningData)
    → s.running ≡ [] → t.running ≡ [] → Run s es rs after → Run t fs us later
    → running_at job number after.running ≡ Some b → running_at other number' later.running ≡ Some c
    → b.plan ≡ c.plan → b.inputs ≡ c.inputs → own job number es rs ≡ own other number' fs us → b.exchanges ≡ c.exchanges

-- TWO BUILDS THAT ENDED as meant, with the same plan, the same input versions and the same answers, had the same
-- exchanges and ended the same
abbrev pub EndsAgree : Type 0
EndsAgree =
    (after later : State) (xs ys : List AnswerData) (c d : BuildData)
    (e : EndsAsMeant after xs c) (f : EndsAsMeant later ys d)
    → e.run.plan ≡ f.run.plan → e.run.inputs ≡ f.run.inputs → xs ≡ ys
    → (e.run.exchanges ≡ f.run.exchanges) × (e.gains ≡ f.gains) × (c.status ≡ d.status)

-- NO BUILD THAT RUNS has had, of its own, the answers by which another ended as meant, with the same plan and the same
-- input versions: with them it would have ended too
abbrev pub NoneRunsOn : Type 0
NoneRunsOn =
    (s after later : State) (es : List EventData) (rs : List Replied) (job : Text) (number : ℕ) (b : RunningData)
    (xs : List AnswerData) (d : BuildData) (f : EndsAsMeant later xs d)
    → s.running ≡ [] → Run s es rs after → running_at job number after.running ≡ Some b
    → b.plan ≡ f.run.plan → b.inputs ≡ f.run.inputs → own job number es rs ≡ xs → ⊥
