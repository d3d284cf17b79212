-- How builds are made, go on and end, and the history with them.
use Rattle.std.specs.Prelude.{◌≡◌, ℕ, ◌+◌, List, [], ◌∷◌, ◌++◌, Option, Some, None}
use Rattle.ccr_history.specs.Builds.{count_of}
use Rattle.ccr_history.specs.Changes.{EditData, build, ended, edited, changed}
use Rattle.ccr_history.specs.History.{HistoryData}
use Rattle.ccr_history.specs.declared.build.Status.{Status}
use Rattle.ccr_history.specs.declared.build.Status.TheVariants as status
use Rattle.ccr_pipeline.specs.Inputs.{inputs}
use Rattle.ccr_pipeline.specs.JobData.{JobData}
use Rattle.ccr_pipeline.specs.Limits.{input_names}
use Rattle.ccr_pipeline.specs.Pipelines.{PipelineData}
use Rattle.ccr_steps.specs.Asks.{AskData, AnswerData, exchange, chosen}
use Rattle.ccr_steps.specs.Gains.{GainsData, no_gains}
use Rattle.ccr_steps.specs.Means.{Means}
use Rattle.ccr_steps.specs.Progress.{IsAllowed, Begins, IsNext}
use Rattle.ccr_steps.specs.declared.outcome.Outcome.{Outcome}
use Rattle.ccr_steps.specs.declared.outcome.Outcome.TheVariants as outcome
use Rattle.ccr_core.specs.State.{RunningData, State, pipeline_of, moved_on, replaced, without}
use Rattle.ccr_core.specs.Seen.{pairs_of, report_by}
use Rattle.ccr_core.specs.Choices.{used_at, versions_at}

-- the status of a build whose plan ended so
abbrev pub status_of : Outcome → Status
status_of outcome.Succeeded = status.Succeeded
status_of outcome.Failed = status.Failed
status_of outcome.Errored = status.Errored
status_of outcome.Aborted = status.Aborted

-- A build's exchanges begin a list that its plan allows. Where they aren't whole, the build stays open, and the history
-- as it is. Where they are, it ends: their outcome is its status, and what they moved are its pairs.
abbrev pub Settles : PipelineData → HistoryData → RunningData → Option Outcome → HistoryData → Type 0
Settles p h b None after =
    Begins b.inputs b.plan b.exchanges × (IsAllowed b.inputs b.plan b.exchanges → ⊥) × (after ≡ h)
Settles p h b (Some o) after =
    (g : GainsData) × Means b.inputs b.plan no_gains b.exchanges o g
    × (after ≡ edited (ended b.job b.number (status_of o) (pairs_of p h g.moved)) h)

-- ---- making
-- a build of a job that has had no answer yet: its number is one more than the count of the job's builds
abbrev pub begun : PipelineData → HistoryData → JobData → List ℕ → RunningData
begun p h j places = record {
  job = j.name;
  number = count_of j.name h.builds + 1;
  plan = j.plan;
  inputs = chosen (input_names j.plan) (versions_at p h (inputs j.plan) places);
  exchanges = [];
}

-- the history with a new build of a job
abbrev pub history_with : PipelineData → HistoryData → JobData → List ℕ → HistoryData
history_with p h j places = edited (build j.name (used_at p h (inputs j.plan) places)) h

-- the builds that run once one was made: it runs if it hasn't ended
abbrev pub with_made : RunningData → Option Outcome → List RunningData → List RunningData
with_made b None running = running ++ b ∷ []
with_made b (Some o) running = running

-- a build of the job is made for these places
abbrev pub Makes : State → JobData → List ℕ → ℕ → State → Type 0
Makes s j places number after =
    let p = pipeline_of s in
    let b = begun p s.history j places in
    (number ≡ b.number)
    × ((o : Option Outcome) × (h : HistoryData)
    × Settles p (history_with p s.history j places) b o h × (after ≡ moved_on s h (with_made b o s.running)))

-- ---- answers
-- a build with one exchange more
abbrev pub with_answer : RunningData → AskData → AnswerData → RunningData
with_answer b a x = record {
  job = b.job;
  number = b.number;
  plan = b.plan;
  inputs = b.inputs;
  exchanges = b.exchanges ++ exchange a x ∷ [];
}

-- the builds that run once one was answered: it runs if it hasn't ended
abbrev pub with_answered : RunningData → Option Outcome → List RunningData → List RunningData
with_answered b None running = replaced b running
with_answered b (Some o) running = without b.job b.number running

-- the build goes on with an answer to what it asks; what it pushed so is reported
abbrev pub GoesOnWith : State → RunningData → AnswerData → Option Outcome → State → Type 0
GoesOnWith s b x o after =
    let p = pipeline_of s in
    (a : AskData) × IsNext b.inputs b.plan b.exchanges a
    × ((h : HistoryData) × Settles p (changed (report_by p a x) s.history) (with_answer b a x) o h
    × (after ≡ moved_on s h (with_answered (with_answer b a x) o s.running)))

-- ---- the end of all
-- a build that is cut short is errored and has moved nothing
abbrev pub cut : RunningData → EditData
cut b = ended b.job b.number status.Errored []
