-- What each build moved, in the history after any list of events.
use Rattle.std.specs.Prelude.{◌≡◌, ◌≢◌, ◌⊎◌, ℕ, List, [], ◌∷◌, ◌++◌, Option, Contains}
use Rattle.std.specs.List.{AllByRecursion}
use Rattle.serde_json.specs.Data.{Data}
use Rattle.ccr_history.specs.Text.{Text}
use Rattle.ccr_history.specs.TextMap.{TextMap}
use Rattle.ccr_history.specs.Builds.{BuildData}
use Rattle.ccr_history.specs.declared.build.Status.TheVariants.{Succeeded}
use Rattle.ccr_history.specs.History.{HistoryData}
use Rattle.ccr_pipeline.specs.Inputs.{InputData, inputs}
use Rattle.ccr_pipeline.specs.Pipelines.{PipelineData}
use Rattle.ccr_pipeline.specs.Tree.{Tree}
use Rattle.ccr_steps.specs.Asks.{AnswerData, fetch, done, Exchange, exchange}
use Rattle.ccr_steps.specs.Fetches.{WasPushed}
use Rattle.ccr_core.specs.EachBuild.{EndsIn, EndsAsMeant}
use Rattle.ccr_core.specs.EndedInRun.{Moment}
use Rattle.ccr_core.specs.Events.{EventData, restart}
use Rattle.ccr_core.specs.Kept.{IsEvent, IsStart}
use Rattle.ccr_core.specs.Own.{own}
use Rattle.ccr_core.specs.Replies.{Replied}
use Rattle.ccr_core.specs.Seen.{version_in, pair_of}
use Rattle.ccr_core.specs.State.{State, pipeline_of}
use Rattle.ccr_core.specs.Steps.{Step, Run}

-- THE BUILD GOT WHAT STANDS AT THIS PLACE: it used the place for an input of its plan, and in these exchanges the version
-- there was fetched for the input, and the fetch was done
pub record WasGot (h : HistoryData) (plan : Tree) (exchanges : List Exchange) (c : BuildData) (scope place : ℕ)
    : Type 0 where
  pub input : InputData
  pub of_plan : Contains (inputs plan) input
  pub used : Contains c.used (record { input = input.name; scope = scope; place = place })
  pub params : Option Data
  pub fetched :
      let version = version_in h.tables scope place in
      Contains exchanges (exchange (fetch input.name input.resource version params) done)

-- THE BUILD PUSHED WHAT STANDS AT THIS PLACE: in these exchanges a push gave a version of a resource, and here it stands
pub record WasPushedTo (p : PipelineData) (h : HistoryData) (exchanges : List Exchange) (scope place : ℕ) : Type 0 where
  pub resource : Text
  pub version : TextMap
  pub pushed : WasPushed exchanges resource version
  pub stands : pair_of p h (record { resource = resource; version = version }) ≡ (scope, place)

-- a build ended as its plan means, by these answers, and what stands at each place that it moved it got, or pushed
pub record HasMovedItsOwn (after : State) (xs : List AnswerData) (c : BuildData) : Type 0 where
  pub ends : EndsAsMeant after xs c
  pub each : (scope place : ℕ) → Contains c.moved (scope, place)
      → WasGot after.history ends.run.plan ends.run.exchanges c scope place
      ⊎ WasPushedTo (pipeline_of after) after.history ends.run.exchanges scope place

-- EACH STEP, other than of a restart, from any state that events lead to: a build that ends in it has moved only what it got
-- for its inputs, and what it pushed; a build that a restart ends has moved nothing
abbrev pub EachStepMovesItsOwn : Type 0
EachStepMovesItsOwn =
    (s before after : State) (es : List EventData) (rs : List Replied) (e : EventData) (r : Replied)
    → IsStart s → AllByRecursion IsEvent es → IsEvent e → Run s es rs before → Step before e r after → e ≢ restart
    → (c : BuildData) → EndsIn before after c
    → HasMovedItsOwn after (own c.job c.number (es ++ e ∷ []) (rs ++ r ∷ [])) c

-- the build ended at one moment of a run, and moved only its own
pub record MovedInRun (start after : State) (es : List EventData) (rs : List Replied) (c : BuildData) : Type 0 where
  pub at : Moment start after es rs
  pub ended : EndsIn at.before at.then c
  pub moved : HasMovedItsOwn at.then (own c.job c.number es rs) c

-- EACH BUILD THAT SUCCEEDED in the history after a list of events had succeeded in the history before it, and is as it was;
-- or it ended at one moment of it, and moved only what it got for its inputs, and what it pushed
abbrev pub EachMovesItsOwn : Type 0
EachMovesItsOwn =
    (s after : State) (es : List EventData) (rs : List Replied)
    → IsStart s → AllByRecursion IsEvent es → Run s es rs after
    → (c : BuildData) → Contains after.history.builds c → c.status ≡ Succeeded
    → Contains s.history.builds c ⊎ MovedInRun s after es rs c
