-- What a page is made of: a pipeline with a history, and what is explained of each job.
use Rattle.std.specs.Prelude.{◌≡◌, ◌≤◌, ℕ, ◌+◌, ◌-◌, ◌*◌, ◌/◌, List, [], ◌∷◌, ◌++◌, length, map, min, max, Bool, Option}
use Rattle.ccr_history.specs.Text.{Text}
use Rattle.ccr_history.specs.History.{HistoryData}
use Rattle.ccr_pipeline.specs.JobData.{JobData, job_data}
use Rattle.ccr_pipeline.specs.Pipelines.{PipelineData, pipeline_data}
use Rattle.ccr_lines.specs.Each.{AreEach}
use Rattle.ccr_lines.specs.ExplainedData.{ExplainedData}
use Rattle.ccr_lines.specs.Explained.{IsExplained}
use Rattle.ccr_overview.specs.declared.scene.Told.{Told}
use Rattle.ccr_overview.specs.declared.scene.Scene.{Scene}

-- a job, and what `explain` says of it
pub record ToldData : Type 0 where
  pub job : JobData
  pub explained : ExplainedData

-- what a value of the program's type stands for
abbrev pub told_data : Told → ToldData
told_data t = record { job = job_data t.job.now; explained = t.explained }

-- a pipeline with a history, how many builds of each job have a row, and its jobs with what is said of them
pub record SceneData : Type 0 where
  pub pipeline : PipelineData
  pub history : HistoryData
  pub rows : ℕ
  pub told : List ToldData

-- what a value of the program's type stands for
abbrev pub scene_data : Scene → SceneData
scene_data s = record {
  pipeline = pipeline_data s.pipeline.now;
  history = s.history.now;
  rows = s.row_count;
  told = map told_data s.told.now;
}

-- it has few resources and jobs, and each of its jobs is told of
pub record IsSmall (s : SceneData) : Type 0 where
  pub resources : length s.pipeline.resources ≤ 200
  pub jobs : length s.pipeline.jobs ≤ 200
  pub told : length s.told ≤ 200

-- how many builds of each job have a row, where there are so many jobs
abbrev pub row_count : ℕ → ℕ
row_count jobs = max (min (150 / max jobs 1) 20) 2

-- a job with what `explain` says of it, in a pipeline with a history, with a search of at most so many nodes
abbrev pub IsTold : PipelineData → HistoryData → ℕ → ℕ → JobData → List ToldData → Type 0
IsTold p h budget k j own =
    (e : ExplainedData) × IsExplained p h budget j e × (own ≡ record { job = j; explained = e } ∷ [])

-- EACH JOB ONCE, in the pipeline's order, with what `explain` says of it
abbrev pub AreTold : PipelineData → HistoryData → ℕ → List ToldData → Type 0
AreTold p h budget all = AreEach (IsTold p h budget) 0 p.jobs all
