-- What an event says to a build.
use Rattle.std.specs.Prelude.{ℕ, Option, Some, None}
use Rattle.ccr_history.specs.Text.{Text}
use Rattle.ccr_steps.specs.Asks.{AnswerData, aborted}
use Rattle.ccr_core.specs.Events.{EventData, set_pipeline, checked, schedule, trigger, answer, abort, pin, unpin, disable, enable, restart}

-- an answer to the job's build of this number: to what it asked at a turn, or, where no turn is named, to what it asks
pub record AnswerTo : Type 0 where
  pub job : Text
  pub number : ℕ
  pub turn : Option ℕ
  pub given : AnswerData

-- this answer to the job's build of this number
abbrev pub answer_to : Text → ℕ → Option ℕ → AnswerData → AnswerTo
answer_to job number turn x = record { job = job; number = number; turn = turn; given = x }

-- What an event says to a build, if it is addressed to one. An abort answers what the build asks, whatever its turn is.
-- Any other event is about the pipeline, a resource, a job, or all that runs. What an event may do goes by this: a table
-- of events has one row for all that say something to a build, and where such an event stands in it by its own name, that
-- row is never reached and is empty.
abbrev pub addressed : EventData → Option AnswerTo
addressed (set_pipeline p) = None
addressed (checked resource vs) = None
addressed (schedule job) = None
addressed (trigger job) = None
addressed (answer job number turn x) = Some (answer_to job number (Some turn) x)
addressed (abort job number) = Some (answer_to job number None aborted)
addressed (pin resource p) = None
addressed (unpin resource) = None
addressed (disable resource place) = None
addressed (enable resource place) = None
addressed restart = None
