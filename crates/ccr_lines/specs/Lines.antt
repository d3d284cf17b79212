-- What is printed of events. Each line ends with a line feed.
use Rattle.std.specs.Prelude.{ℕ, List, [], ◌∷◌, ◌++◌, length, flat_map, codes, decimal, Option, Some, None, Ok, Err}
use Rattle.std.specs.List.{concat}
use Rattle.ccr_history.specs.Text.{Text}
use Rattle.ccr_history.specs.Builds.{BuildData, build_of}
use Rattle.ccr_history.specs.History.{HistoryData}
use Rattle.ccr_history.specs.declared.build.Status.{Status}
use Rattle.ccr_history.specs.declared.build.Status.TheVariants as status
use Rattle.ccr_pipeline.specs.Pipelines.{PipelineData}
use Rattle.ccr_core.specs.declared.fault.CoreFault.{CoreFault}
use Rattle.ccr_core.specs.declared.fault.CoreFault.TheVariants.{TooManyOpen, TableFull}
use Rattle.ccr_core.specs.declared.reply.Reply.{Reply}
use Rattle.ccr_core.specs.declared.reply.Reply.TheVariants.{Set, New, Made, NoneSatisfies, OverBudget, NotNew, Busy, Goes, Ends, Pinned, Unpinned, Disabled, Enabled, Restarted}
use Rattle.ccr_core.specs.Builds.{status_of}
use Rattle.ccr_core.specs.Events.{EventData, set_pipeline, checked, schedule, trigger, answer, abort, pin, unpin, disable, enable, restart}
use Rattle.ccr_core.specs.Replies.{Replied}
use Rattle.ccr_lines.specs.declared.cause.Cause.{Cause}
use Rattle.ccr_lines.specs.declared.cause.Cause.TheVariants as cause

-- a line of these parts
abbrev pub line : List Text → Text
line parts = concat parts ++ 10 ∷ []

-- ---- pipelines
-- a pipeline was set: how many resources and jobs it has, and a line for each key without effect
abbrev pub pipeline_lines : PipelineData → Text
pipeline_lines p =
    line (codes "pipeline set: " ∷ decimal (length p.resources) ∷ codes " resources, "
    ∷ decimal (length p.jobs) ∷ codes " jobs" ∷ [])
    ++ flat_map (λ path. line (codes "unused " ∷ path ∷ [])) p.unused

-- ---- checks
-- what is printed of a check
abbrev pub check_line : Text → List Text → Text
check_line resource words = line (codes "check " ∷ resource ∷ codes ": " ∷ words)

-- why a check found nothing, in words
abbrev pub cause_words : Cause → List Text
cause_words cause.RequestTooLong = codes "request too long" ∷ []
cause_words cause.FolderFault = codes "folder fault" ∷ []
cause_words cause.NotStarted = codes "not started" ∷ []
cause_words cause.Killed = codes "killed" ∷ []
cause_words cause.InputFault = codes "input fault" ∷ []
cause_words cause.ReadFault = codes "read fault" ∷ []
cause_words cause.OutputTooLong = codes "output too long" ∷ []
cause_words (cause.Status n) = codes "status " ∷ decimal n ∷ []
cause_words cause.NotJson = codes "not JSON" ∷ []
cause_words cause.WrongKind = codes "wrong kind" ∷ []
cause_words cause.VersionNotText = codes "version not text" ∷ []

-- what is printed of a check that found nothing
abbrev pub refused_line : Text → List Text → Text
refused_line resource words = check_line resource (codes "refused: " ∷ words)

-- ---- builds
-- how a build stands, in a word
abbrev pub status_word : Status → Text
status_word status.Running = codes "running"
status_word status.Succeeded = codes "succeeded"
status_word status.Failed = codes "failed"
status_word status.Errored = codes "errored"
status_word status.Aborted = codes "aborted"

-- what is printed of a job's build
abbrev pub build_line : Text → ℕ → Text → Text
build_line job number word = line (job ∷ codes " " ∷ decimal number ∷ codes " " ∷ word ∷ [])

-- what is printed of a build that stands so: nothing while it runs
abbrev pub end_word_line : Text → ℕ → Status → Text
end_word_line job number status.Running = []
end_word_line job number s = build_line job number (status_word s)

-- the line of a new build's end, where it has ended
abbrev pub end_line : Text → ℕ → Option BuildData → Text
end_line job number None = []
end_line job number (Some b) = end_word_line job number b.status

-- what is printed of a job, after its name
abbrev pub job_line : Text → List Text → Text
job_line job words = line (job ∷ codes ": " ∷ words)

-- what is printed of a job that is scheduled or triggered; a new build that has ended at once has both its lines
abbrev pub job_lines : Text → Reply → HistoryData → Text
job_lines job (Made number) h =
    build_line job number (codes "made") ++ end_line job number (build_of job number h.builds)
job_lines job NoneSatisfies h = job_line job (codes "none satisfies" ∷ [])
job_lines job (OverBudget n) h = job_line job (codes "over budget " ∷ decimal n ∷ [])
job_lines job Busy h = job_line job (codes "busy" ∷ [])
job_lines job NotNew h = []
job_lines job Set h = []
job_lines job (New n) h = []
job_lines job Goes h = []
job_lines job (Ends o) h = []
job_lines job Pinned h = []
job_lines job Unpinned h = []
job_lines job Disabled h = []
job_lines job Enabled h = []
job_lines job Restarted h = []

-- what is printed of a job whose schedule is refused
abbrev pub refused_job_lines : Text → CoreFault → Text
refused_job_lines job TooManyOpen = job_line job (codes "too many builds open" ∷ [])
refused_job_lines job TableFull = job_line job (codes "table full" ∷ [])
refused_job_lines job f = []

-- ---- versions
-- what is printed of a place of a resource
abbrev pub place_line : Text → Text → ℕ → Text
place_line word resource place = line (word ∷ resource ∷ codes " " ∷ decimal place ∷ [])

-- ---- events
-- WHAT IS PRINTED of an event with its reply, and with the history after it
abbrev pub lines_of : EventData → Replied → HistoryData → Text
lines_of (set_pipeline p) (Ok Set) h = pipeline_lines p
lines_of (set_pipeline p) r h = []
lines_of (checked resource vs) (Ok (New n)) h = check_line resource (decimal n ∷ codes " new" ∷ [])
lines_of (checked resource vs) (Err TableFull) h = refused_line resource (codes "table full" ∷ [])
lines_of (checked resource vs) r h = []
lines_of (schedule job) (Ok r) h = job_lines job r h
lines_of (schedule job) (Err f) h = refused_job_lines job f
lines_of (trigger job) (Ok r) h = job_lines job r h
lines_of (trigger job) (Err f) h = []
lines_of (answer job number turn x) (Ok (Ends o)) h = build_line job number (status_word (status_of o))
lines_of (answer job number turn x) r h = []
lines_of (abort job number) (Ok (Ends o)) h = build_line job number (status_word (status_of o))
lines_of (abort job number) r h = []
lines_of (pin resource p) (Ok Pinned) h = line (codes "pinned " ∷ resource ∷ [])
lines_of (pin resource p) r h = []
lines_of (unpin resource) (Ok Unpinned) h = line (codes "unpinned " ∷ resource ∷ [])
lines_of (unpin resource) r h = []
lines_of (disable resource place) (Ok Disabled) h = place_line (codes "disabled ") resource place
lines_of (disable resource place) r h = []
lines_of (enable resource place) (Ok Enabled) h = place_line (codes "enabled ") resource place
lines_of (enable resource place) r h = []
lines_of restart r h = []
