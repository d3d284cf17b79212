-- What the core knows: a history, a pipeline, a budget, and the builds that run.
use Rattle.std.specs.Prelude.{ℕ, ◌==◌, Bool, ◌&&◌, List, [], ◌∷◌, Option, Some, None, unwrap_or, if◌then◌else◌}
use Rattle.std.specs.Str.{bytes_eq}
use Rattle.ccr_history.specs.Text.{Text}
use Rattle.ccr_history.specs.History.{HistoryData}
use Rattle.ccr_pipeline.specs.JobData.{ResourceData, JobData}
use Rattle.ccr_pipeline.specs.Pipelines.{PipelineData}
use Rattle.ccr_pipeline.specs.Tree.{Tree}
use Rattle.ccr_problem.specs.ProblemOf.{history_number}
use Rattle.ccr_steps.specs.Asks.{Chosen, Exchange}

-- a build that runs: its job and number, its plan and the versions of its inputs, and the exchanges that it has had
pub record RunningData : Type 0 where
  pub job : Text
  pub number : ℕ
  pub plan : Tree
  pub inputs : Chosen
  pub exchanges : List Exchange

-- a history, a pipeline if one was set, how many nodes a search may take, and the builds that run, in order of making
pub record State : Type 0 where
  pub history : HistoryData
  pub pipeline : Option PipelineData
  pub budget : ℕ
  pub running : List RunningData

-- a pipeline without resources and jobs
abbrev pub no_pipeline : PipelineData
no_pipeline = record { text = []; unused = []; resources = []; jobs = [] }

-- the pipeline; without resources and jobs where none was set
abbrev pub pipeline_of : State → PipelineData
pipeline_of s = unwrap_or s.pipeline no_pipeline

-- the resources of the pipeline
abbrev pub resources_of : State → List ResourceData
resources_of s = (pipeline_of s).resources

-- the jobs of the pipeline
abbrev pub jobs_of : State → List JobData
jobs_of s = (pipeline_of s).jobs

-- the number that the history has for the scope of the resource of a name; 0 where it has none
abbrev pub scope_in : State → Text → ℕ
scope_in s resource = history_number (pipeline_of s) s.history resource

-- the state with this history and these builds that run; pipeline and budget stay
abbrev pub moved_on : State → HistoryData → List RunningData → State
moved_on s h running = record { history = h; pipeline = s.pipeline; budget = s.budget; running = running }

-- the state with this history; all else stays
abbrev pub with_history : State → HistoryData → State
with_history s h = moved_on s h s.running

-- ---- builds by their numbers
-- the build is the job's build of this number
abbrev pub is_run_of : Text → ℕ → RunningData → Bool
is_run_of job number b = bytes_eq job b.job && number == b.number

-- the job's build of this number that runs
abbrev pub running_at : Text → ℕ → List RunningData → Option RunningData
running_at job number [] = None
running_at job number (b ∷ bs) = if is_run_of job number b then Some b else running_at job number bs

-- the builds that run, with this one in the place of the one of its number
abbrev pub replaced : RunningData → List RunningData → List RunningData
replaced new [] = []
replaced new (b ∷ bs) = if is_run_of new.job new.number b then new ∷ bs else b ∷ replaced new bs

-- the builds that run, without the one of this number
abbrev pub without : Text → ℕ → List RunningData → List RunningData
without job number [] = []
without job number (b ∷ bs) = if is_run_of job number b then bs else b ∷ without job number bs
