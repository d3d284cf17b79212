-- How many builds run.
use Rattle.std.specs.Prelude.{◌≡◌, ◌≢◌, ℕ, ◌≤◌, true, List, [], Option, Some, None, length, ⊤}
use Rattle.ccr_history.specs.Text.{Text}
use Rattle.ccr_pipeline.specs.JobData.{JobData}
use Rattle.ccr_core.specs.declared.limit.TheConstants.{MOST_RUNNING}
use Rattle.ccr_problem.specs.ProblemOf.{job_of}
use Rattle.ccr_core.specs.Busy.{running_of, share}
use Rattle.ccr_problem.specs.Limit.{limit_of}
use Rattle.ccr_core.specs.Events.{EventData}
use Rattle.ccr_core.specs.State.{RunningData, State, jobs_of}
use Rattle.ccr_core.specs.Replies.{Replied}
use Rattle.ccr_core.specs.Steps.{Run}

-- no more than the limit, if there is one
abbrev pub IsWithin : Option ℕ → ℕ → Type 0
IsWithin None n = ⊤
IsWithin (Some most) n = n ≤ most

-- a build of the job runs
abbrev pub Runs : Text → List RunningData → Type 0
Runs job running = running_of job running ≢ 0

-- at most 64 builds run, of each job at most as many as its limit, and two jobs that share a serial group never both
-- have one
pub record IsLimited (s : State) : Type 0 where
  pub few : length s.running ≤ MOST_RUNNING
  pub each : (job : Text) (j : JobData) → job_of job (jobs_of s) ≡ Some j
      → IsWithin (limit_of j) (running_of job s.running)
  pub apart : (job other : Text) (j k : JobData) → job_of job (jobs_of s) ≡ Some j → job_of other (jobs_of s) ≡ Some k
      → job ≢ other → share j k ≡ true → Runs job s.running → Runs other s.running → ⊥

-- AT EVERY MOMENT the limits are kept
abbrev pub LimitsAreKept : Type 0
LimitsAreKept =
    (s after : State) (es : List EventData) (rs : List Replied) → s.running ≡ [] → Run s es rs after → IsLimited after
