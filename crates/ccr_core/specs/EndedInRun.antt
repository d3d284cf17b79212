-- What has become of each build, in the history after any list of events.
use Rattle.std.specs.Prelude.{◌≡◌, ◌≢◌, ◌⊎◌, List, [], ◌∷◌, ◌++◌, Some, None, Ok}
use Rattle.std.specs.List.{AllByRecursion}
use Rattle.ccr_history.specs.Builds.{BuildData, build_of}
use Rattle.ccr_history.specs.declared.build.Status.TheVariants.{Running, Errored}
use Rattle.ccr_steps.specs.Asks.{AnswerData}
use Rattle.ccr_steps.specs.declared.outcome.Outcome.{Outcome}
use Rattle.ccr_core.specs.declared.reply.Reply.TheVariants.{Made, Ends}
use Rattle.ccr_core.specs.Addressed.{AnswerTo, addressed}
use Rattle.ccr_core.specs.Builds.{status_of}
use Rattle.ccr_core.specs.Events.{EventData, schedule, trigger, restart}
use Rattle.ccr_core.specs.Kept.{IsEvent, IsStart}
use Rattle.ccr_core.specs.Own.{own}
use Rattle.ccr_core.specs.Replies.{Replied}
use Rattle.ccr_core.specs.State.{RunningData, State, pipeline_of, running_at}
use Rattle.ccr_core.specs.Steps.{Step, Run}
use Rattle.ccr_core.specs.EachBuild.{HasItsOwn, EndsIn, EndsAsMeant}

-- A MOMENT of a run: one of its events, the events before it and those behind it, each with their replies. Those before
-- lead from the start to a state, the event's step leads from there to the next, and those behind lead on to the end.
pub record Moment (start after : State) (es : List EventData) (rs : List Replied) : Type 0 where
  pub first : List EventData
  pub event : EventData
  pub rest : List EventData
  pub first_replies : List Replied
  pub reply : Replied
  pub rest_replies : List Replied
  pub events : es ≡ first ++ event ∷ rest
  pub replies : rs ≡ first_replies ++ reply ∷ rest_replies
  pub before : State
  pub then : State
  pub led : Run start first first_replies before
  pub step : Step before event reply then
  pub leads : Run then rest rest_replies after

-- the event was this build's own answer, while it ran, and the reply says that it ends so
abbrev pub EndsByAnswer : State → EventData → Replied → BuildData → Type 0
EndsByAnswer before e r c =
    (b : RunningData) × (a : AnswerTo) × (o : Outcome)
    × (running_at c.job c.number before.running ≡ Some b)
    × (addressed e ≡ Some a) × (a.job ≡ c.job) × (a.number ≡ c.number)
    × (r ≡ Ok (Ends o)) × (c.status ≡ status_of o)

-- the event made this build, which asks nothing, so it ended at once
abbrev pub EndsAsMade : State → EventData → Replied → BuildData → Type 0
EndsAsMade before e r c =
    (build_of c.job c.number before.history.builds ≡ None)
    × ((e ≡ schedule c.job) ⊎ (e ≡ trigger c.job)) × (r ≡ Ok (Made c.number))

-- the event was a restart, which cut this build short: it ran with these answers, which aren't whole, and now it is
-- errored and has moved nothing
abbrev pub IsCutShort : State → EventData → List AnswerData → BuildData → Type 0
IsCutShort before e xs c =
    (e ≡ restart)
    × ((b : RunningData) × (running_at c.job c.number before.running ≡ Some b) × HasItsOwn (pipeline_of before) xs b)
    × (c.status ≡ Errored) × (c.moved ≡ [])

-- HOW A BUILD ENDED in a run: at one moment of it, and no answer behind that is its own. It ended by its own answer, or
-- in the event that made it, as its plan means, by the answers that were its own in the whole run; or a restart cut it
-- short.
pub record EndedInRun (start after : State) (es : List EventData) (rs : List Replied) (c : BuildData) : Type 0 where
  pub at : Moment start after es rs
  pub ends : EndsIn at.before at.then c
  pub silent : own c.job c.number at.rest at.rest_replies ≡ []
  pub cause :
      ((EndsByAnswer at.before at.event at.reply c ⊎ EndsAsMade at.before at.event at.reply c)
      × EndsAsMeant at.then (own c.job c.number es rs) c)
      ⊎ IsCutShort at.before at.event (own c.job c.number es rs) c

-- EACH BUILD that has ended after a list of events had ended before it, and is as it was; or it ended among them
abbrev pub EachEndedInRun : Type 0
EachEndedInRun =
    (s after : State) (es : List EventData) (rs : List Replied)
    → IsStart s → AllByRecursion IsEvent es → Run s es rs after
    → (c : BuildData) → build_of c.job c.number after.history.builds ≡ Some c → c.status ≢ Running
    → (build_of c.job c.number s.history.builds ≡ Some c) ⊎ EndedInRun s after es rs c

-- WHAT HAS ENDED stays as it is, whatever events come
abbrev pub EndedStays : Type 0
EndedStays =
    (s after : State) (es : List EventData) (rs : List Replied)
    → IsStart s → AllByRecursion IsEvent es → Run s es rs after
    → (c : BuildData) → build_of c.job c.number s.history.builds ≡ Some c → c.status ≢ Running
    → build_of c.job c.number after.history.builds ≡ Some c
