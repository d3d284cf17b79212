-- Where a version stopped: the job that hasn't passed it, and what became of it there.
use Rattle.std.specs.Prelude.{ℕ, zero, suc, List, [], ◌++◌, length, find, Bool, not, ◌==◌, Option, None, option_and_then, is_some, if◌then◌else◌, codes, decimal, string_bytes}
use Rattle.std.specs.Option.{option_map_or}
use Rattle.ccr_history.specs.Text.{Text}
use Rattle.ccr_history.specs.History.{HistoryData}
use Rattle.ccr_history.specs.declared.build.Status.{Status}
use Rattle.ccr_history.specs.declared.build.Status.TheVariants.{Running, Succeeded, Failed, Errored, Aborted}
use Rattle.ccr_pipeline.specs.Inputs.{InputData}
use Rattle.ccr_pipeline.specs.Pipelines.{PipelineData}
use Rattle.ccr_problem.specs.ProblemOf.{history_number}
use Rattle.ccr_lines.specs.Lines.{status_word}
use Rattle.ccr_lines.specs.Newest.{has_met, passed_with, newest_of, standing_of}
use Rattle.ccr_lines.specs.Releases.{inputs_in_plan}
use Rattle.ccr_lines.specs.declared.stop.Stop.{Stop}

-- ---- from job to job
-- no successful build of the job moved this place of this scope
abbrev pub is_unpassed : HistoryData → ℕ × ℕ → Text → Bool
is_unpassed h pair job = not (is_some (newest_of (passed_with pair) job h))

-- the first of these inputs whose resource has the scope
abbrev pub input_in : PipelineData → HistoryData → ℕ → List InputData → Option InputData
input_in p h scope is = find (λ i. history_number p h i.resource == scope) is

-- the first job that a job's own input in the scope names in passed, and that hasn't passed the place
abbrev pub job_before : PipelineData → HistoryData → ℕ × ℕ → Text → Option Text
job_before p h pair job =
    option_and_then (λ i. find (is_unpassed h pair) i.passed) (input_in p h pair.0 (inputs_in_plan p job))

-- where no build of a job took or moved the place, the job before it, if there is one
abbrev pub next_stop : PipelineData → HistoryData → ℕ × ℕ → Text → Option Text
next_stop p h pair job = if is_some (newest_of (has_met pair) job h) then None else job_before p h pair job

-- the job at which the place stopped, looked for from a job on over at most so many others: passed may go in a circle
abbrev pub stopping_job : ℕ → PipelineData → HistoryData → ℕ × ℕ → Text → Text
stopping_job zero p h pair job = job
stopping_job (suc n) p h pair job = option_map_or (λ next. stopping_job n p h pair next) (next_stop p h pair job) job

-- ---- the stop
-- a job, and the number and the status of one of its builds
pub record StopData : Type 0 where
  pub job : Text
  pub build : Option (ℕ × Status)

-- what a value of the program's type stands for
abbrev pub stop_data : Stop → StopData
stop_data s = record { job = string_bytes s.job; build = s.build }

-- the newest build of a job that took or moved the place, if there is one
abbrev pub stop_at : HistoryData → ℕ × ℕ → Text → StopData
stop_at h pair job = record { job = job; build = standing_of (newest_of (has_met pair) job h) }

-- WHERE A PLACE OF A SCOPE STOPPED that hasn't passed a job: at this job, if a build of it took or moved it; else at the job from
-- which it had to come, and so on
abbrev pub stop_of : PipelineData → HistoryData → ℕ × ℕ → Text → StopData
stop_of p h pair job = stop_at h pair (stopping_job (length p.jobs) p h pair job)

-- ---- in words
-- how a build stands, behind its number
abbrev pub stands_word : Status → Text
stands_word Running = codes "runs"
stands_word Succeeded = status_word Succeeded
stands_word Failed = status_word Failed
stands_word Errored = status_word Errored
stands_word Aborted = status_word Aborted

-- what is added where a build succeeded that hasn't moved the version
abbrev pub without_word : Status → Text
without_word Running = []
without_word Succeeded = codes " without it"
without_word Failed = []
without_word Errored = []
without_word Aborted = []

-- a build of a job, and how it stands
abbrev pub stands_words : Text → ℕ → Status → Text
stands_words job number s = job ++ (codes " " ++ (decimal number ++ (codes " " ++ stands_word s)))

-- the build that had the version, and how it stands; or that no build of the job had it
abbrev pub stop_words : StopData → Text
stop_words s =
    option_map_or (λ b. stands_words s.job b.0 b.1 ++ without_word b.1) s.build (codes "not built by " ++ s.job)
