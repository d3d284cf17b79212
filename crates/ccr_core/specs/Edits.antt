-- What a step changes of the history, edit by edit.
use Rattle.std.specs.Prelude.{◌≡◌, ℕ, List, [], ◌∷◌, ◌++◌, map, Option, Some, None, Ok, Err, if◌then◌else◌}
use Rattle.ccr_history.specs.Text.{Text}
use Rattle.ccr_history.specs.TextMap.{TextMap}
use Rattle.ccr_history.specs.Tables.{has_version, versions_of}
use Rattle.ccr_history.specs.Changes.{EditData, text, versions, build, ended, pin_set, pin_cleared, disabled, enabled, changed, AdmitsAll}
use Rattle.ccr_history.specs.History.{HistoryData}
use Rattle.ccr_pipeline.specs.Inputs.{inputs}
use Rattle.ccr_pipeline.specs.JobData.{JobData}
use Rattle.ccr_pipeline.specs.Pipelines.{PipelineData}
use Rattle.ccr_steps.specs.Asks.{AskData, AnswerData}
use Rattle.ccr_steps.specs.Progress.{IsNext}
use Rattle.ccr_steps.specs.declared.outcome.Outcome.{Outcome}
use Rattle.ccr_problem.specs.ProblemOf.{job_of}
use Rattle.ccr_core.specs.declared.reply.Reply.{Reply}
use Rattle.ccr_core.specs.declared.reply.Reply.TheVariants.{Made, Goes, Ends}
use Rattle.ccr_core.specs.Addressed.{AnswerTo, addressed}
use Rattle.ccr_core.specs.Builds.{begun, history_with, with_answer, cut}
use Rattle.ccr_core.specs.Choices.{best, Finds, used_at}
use Rattle.ccr_core.specs.Endings.{IsEnding, end_edits}
use Rattle.ccr_core.specs.Events.{EventData, set_pipeline, checked, schedule, trigger, answer, abort, pin, unpin, disable, enable, restart}
use Rattle.ccr_core.specs.Replies.{Replied}
use Rattle.ccr_core.specs.Seen.{report, report_by}
use Rattle.ccr_core.specs.State.{RunningData, State, pipeline_of, jobs_of, running_at, scope_in}

-- ---- reports
-- those of the versions that a list lacks, each once, in order
abbrev pub new_to : List TextMap → List TextMap → List TextMap
new_to known [] = []
new_to known (v ∷ vs) = if has_version known v then new_to known vs else v ∷ new_to (known ++ v ∷ []) vs

-- a report without the versions that its scope's table has; any other edit as it is
abbrev pub with_news : HistoryData → EditData → EditData
with_news h (versions scope vs) = versions scope (new_to (versions_of scope h.tables) vs)
with_news h (text t) = text t
with_news h (build job used) = build job used
with_news h (ended job number status moved) = ended job number status moved
with_news h (pin_set resource p) = pin_set resource p
with_news h (pin_cleared resource) = pin_cleared resource
with_news h (disabled scope place) = disabled scope place
with_news h (enabled scope place) = enabled scope place

-- what a report changes, with the versions alone that are new
abbrev pub news_in : HistoryData → List EditData → List EditData
news_in h edits = map (with_news h) edits

-- ---- builds
-- a build's end at its exchanges, with what they mean that it moved: one edit if they are whole, else none
abbrev pub AreEndEdits : PipelineData → HistoryData → RunningData → Option Outcome → List EditData → Type 0
AreEndEdits p h b o edits =
    (pairs : List (ℕ × ℕ)) × IsEnding p h b.inputs b.plan b.exchanges o pairs
    × (edits ≡ end_edits b.job b.number o pairs)

-- a build of the job is made for these places, and then ends if it asks nothing
abbrev pub AreBuildEdits : PipelineData → HistoryData → JobData → List ℕ → List EditData → Type 0
AreBuildEdits p h j places edits =
    (o : Option Outcome) × (end : List EditData)
    × AreEndEdits p (history_with p h j places) (begun p h j places) o end
    × (edits ≡ build j.name (used_at p h (inputs j.plan) places) ∷ end)

-- these reports, with what is new of them, and then a build's end, if it has ended
abbrev pub AreMoreEdits :
    PipelineData → HistoryData → List EditData → RunningData → Option Outcome → List EditData → Type 0
AreMoreEdits p h reports b o edits =
    (end : List EditData) × AreEndEdits p (changed reports h) b o end × (edits ≡ news_in h reports ++ end)

-- a build goes on with an answer: what it pushes is reported, and then the build ends, if it does
abbrev pub AreNextEdits :
    PipelineData → HistoryData → RunningData → AnswerData → Option Outcome → List EditData → Type 0
AreNextEdits p h b x o edits =
    (a : AskData) × IsNext b.inputs b.plan b.exchanges a
    × AreMoreEdits p h (report_by p a x) (with_answer b a x) o edits

-- ---- each event
-- an answer to a build that runs
abbrev pub AreAnswerEdits : State → AnswerTo → Option Outcome → List EditData → Type 0
AreAnswerEdits s a o edits =
    (b : RunningData) × (running_at a.job a.number s.running ≡ Some b)
    × AreNextEdits (pipeline_of s) s.history b a.given o edits

-- an answer, by its reply; no other reply is given to one
abbrev pub AreSaidEdits : State → AnswerTo → Reply → List EditData → Type 0
AreSaidEdits s a Goes edits = AreAnswerEdits s a None edits
AreSaidEdits s a (Ends o) edits = AreAnswerEdits s a (Some o) edits
AreSaidEdits s a r edits = ⊥

-- a job's next build, at the places of an optimal choice; nothing where none is made
abbrev pub AreMadeEdits : State → Text → Reply → List EditData → Type 0
AreMadeEdits s job (Made number) edits =
    (j : JobData) × (job_of job (jobs_of s) ≡ Some j)
    × ((places : List ℕ) × Finds s j.name (best places) × AreBuildEdits (pipeline_of s) s.history j places edits)
AreMadeEdits s job r edits = edits ≡ []

-- the edits of an event by what it says to a build, or, where it says nothing to one, by what it is
abbrev pub AreEditsBy : State → Option AnswerTo → EventData → Reply → List EditData → Type 0
AreEditsBy s (Some a) e r edits = AreSaidEdits s a r edits
AreEditsBy s None (set_pipeline p) r edits = edits ≡ text p.text ∷ []
AreEditsBy s None (checked resource vs) r edits = edits ≡ news_in s.history (report (pipeline_of s) resource vs)
AreEditsBy s None (schedule job) r edits = AreMadeEdits s job r edits
AreEditsBy s None (trigger job) r edits = AreMadeEdits s job r edits
AreEditsBy s None (answer job number turn x) r edits = ⊥
AreEditsBy s None (abort job number) r edits = ⊥
AreEditsBy s None (pin resource p) r edits = edits ≡ pin_set resource p ∷ []
AreEditsBy s None (unpin resource) r edits = edits ≡ pin_cleared resource ∷ []
AreEditsBy s None (disable resource place) r edits = edits ≡ disabled (scope_in s resource) place ∷ []
AreEditsBy s None (enable resource place) r edits = edits ≡ enabled (scope_in s resource) place ∷ []
AreEditsBy s None restart r edits = edits ≡ map cut s.running

-- THE EDITS OF A STEP: these and no others, in this order. A refusal has none.
abbrev pub AreEdits : State → EventData → Replied → List EditData → Type 0
AreEdits s e (Ok r) edits = AreEditsBy s (addressed e) e r edits
AreEdits s e (Err f) edits = edits ≡ []

-- the history takes these edits, each by then, and they lead to the history after: nothing else has changed
abbrev pub AreTakenTo : State → List EditData → State → Type 0
AreTakenTo before edits after = AdmitsAll before.history edits × (after.history ≡ changed edits before.history)
