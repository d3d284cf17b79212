-- What the core is told.
use Rattle.std.specs.Prelude.{ℕ, List, string_bytes}
use Rattle.ccr_history.specs.Text.{Text}
use Rattle.ccr_history.specs.TextMap.{TextMap}
use Rattle.ccr_pipeline.specs.Pipelines.{PipelineData, pipeline_data}
use Rattle.ccr_steps.specs.Asks.{AnswerData, answer_data}
use Rattle.ccr_core.specs.declared.event.Event.{Event}
use Rattle.ccr_core.specs.declared.event.Event.TheVariants.{SetPipeline, Checked, Schedule, Trigger, Answer, Abort, Pin, Unpin, Disable, Enable, Restart}

-- what happens: a new pipeline, what a check found, a build that is to be made where there is something new or by
-- command, an answer to what a build asked at a turn, an abort of a build, a pin by command, its end, a place of a
-- resource's table that is disabled or enabled, or a restart
pub data EventData : Type 0 where
  set_pipeline : PipelineData → EventData
  checked : (resource : Text) (versions : List TextMap) → EventData
  schedule : (job : Text) → EventData
  trigger : (job : Text) → EventData
  answer : (job : Text) (number turn : ℕ) (x : AnswerData) → EventData
  abort : (job : Text) (number : ℕ) → EventData
  pin : (resource : Text) (pin : TextMap) → EventData
  unpin : (resource : Text) → EventData
  disable : (resource : Text) (place : ℕ) → EventData
  enable : (resource : Text) (place : ℕ) → EventData
  restart : EventData

-- what happens, without where it lies in memory
abbrev pub event_data : Event → EventData
event_data (SetPipeline p) = set_pipeline (pipeline_data p)
event_data (Checked resource versions) = checked (string_bytes resource) versions.items
event_data (Schedule job) = schedule (string_bytes job)
event_data (Trigger job) = trigger (string_bytes job)
event_data (Answer job number turn x) = answer (string_bytes job) number turn (answer_data x)
event_data (Abort job number) = abort (string_bytes job) number
event_data (Pin resource p) = pin (string_bytes resource) p
event_data (Unpin resource) = unpin (string_bytes resource)
event_data (Disable resource place) = disable (string_bytes resource) place
event_data (Enable resource place) = enable (string_bytes resource) place
event_data Restart = restart
