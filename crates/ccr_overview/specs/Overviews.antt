-- THE PAGE of what a core holds.
use Rattle.std.specs.Prelude.{◌≡◌, ℕ, List, [], ◌∷◌, length, map, not, ◌==◌, Bool, true, false, Option, Some, None, option_map, string_bytes}
use Rattle.ccr_history.specs.Text.{Text}
use Rattle.ccr_history.specs.Builds.{BuildData}
use Rattle.ccr_history.specs.History.{HistoryData}
use Rattle.ccr_pipeline.specs.Inputs.{InputData, inputs}
use Rattle.ccr_pipeline.specs.Pipelines.{PipelineData}
use Rattle.ccr_core.specs.Holding.{CoreData}
use Rattle.ccr_lines.specs.Standing.{newest_build}
use Rattle.ccr_overview.specs.declared.options.Options.{Options}
use Rattle.ccr_overview.specs.Abouts.{about_words}
use Rattle.ccr_overview.specs.Arrows.{arrows}
use Rattle.ccr_overview.specs.PageBuilds.{newest_status, newest_number, listed, builds_at, bars}
use Rattle.ccr_overview.specs.PageData.{PortData, PageJobData, PageData}
use Rattle.ccr_overview.specs.PageResources.{resource_shown}
use Rattle.ccr_overview.specs.PageRows.{columns, rows_at}
use Rattle.ccr_overview.specs.Each.{each_from}
use Rattle.ccr_overview.specs.Scenes.{ToldData, SceneData, row_count, AreTold}
use Rattle.ccr_overview.specs.Sentences.{why_of}

-- ---- what is asked
-- the heading, when the page is made, what runs right now, after how many seconds it is to be read again, and where the logs
-- are
pub record OptionsData : Type 0 where
  pub title : Text
  pub made : Option Text
  pub now : Option Text
  pub refresh : Option ℕ
  pub logs : Option Text

-- what a value of the program's type stands for
abbrev pub options_data : Options → OptionsData
options_data o = record {
  title = string_bytes o.title;
  made = option_map string_bytes o.made;
  now = option_map string_bytes o.now;
  refresh = o.refresh;
  logs = option_map string_bytes o.logs;
}

-- ---- jobs
-- an input
abbrev pub port_of : InputData → PortData
port_of i = record { resource = i.resource; is_passed = not (length i.passed == 0) }

-- a job at a position, whose newest build is this one, and which has rows for the builds at these positions and columns of
-- these names
abbrev pub job_with : SceneData → ℕ → ToldData → Option BuildData → List ℕ → List Text → PageJobData
job_with s k t newest ks names = record {
  name = t.job.name;
  status = newest_status newest;
  number = newest_number newest;
  ports = map port_of (inputs t.job.plan);
  about = about_words s k t newest;
  why = why_of s k t newest;
  bars = bars s.history s.rows t.job.name;
  columns = names;
  rows = rows_at s names ks;
}

-- the same, with the columns of these builds
abbrev pub job_listed : SceneData → ℕ → ToldData → Option BuildData → List ℕ → PageJobData
job_listed s k t newest ks = job_with s k t newest ks (columns t.job (builds_at s.history ks))

-- A JOB at a position: its newest build, what is said of it, why it stands still, its last builds, and what they took
abbrev pub job_at : SceneData → ℕ → ToldData → PageJobData
job_at s k t = job_listed s k t (newest_build t.job.name s.history) (listed s.history s.rows t.job.name)

-- the same, as one of several
abbrev pub job_shown : SceneData → ℕ → ToldData → List PageJobData
job_shown s k t = job_at s k t ∷ []

-- ---- the page
-- the page of a pipeline with a history, and of what is said of its jobs
abbrev pub page_with : OptionsData → SceneData → PageData
page_with o s = record {
  title = o.title;
  made = o.made;
  now = o.now;
  refresh = o.refresh;
  logs = o.logs;
  has_pipeline = true;
  row_count = s.rows;
  jobs = each_from (job_shown s) 0 s.told;
  resources = map (resource_shown s.history) s.pipeline.resources;
  arrows = arrows s;
}

-- the page where no pipeline is set
abbrev pub page_without : OptionsData → PageData
page_without o = record {
  title = o.title;
  made = o.made;
  now = o.now;
  refresh = o.refresh;
  logs = o.logs;
  has_pipeline = false;
  row_count = row_count 0;
  jobs = [];
  resources = [];
  arrows = [];
}

-- a pipeline with a history, and with what is said of its jobs
abbrev pub scene_of : PipelineData → HistoryData → List ToldData → SceneData
scene_of p h told = record { pipeline = p; history = h; rows = row_count (length p.jobs); told = told }

-- the page of a pipeline with a history: each job once, with what `explain` says of it, each resource once, and each edge of
-- the graph once
abbrev pub IsPageOf : OptionsData → PipelineData → HistoryData → ℕ → PageData → Type 0
IsPageOf o p h budget page =
    (told : List ToldData) × AreTold p h budget told × (page ≡ page_with o (scene_of p h told))

-- the same of a pipeline that may be set
abbrev pub IsPageIn : OptionsData → Option PipelineData → HistoryData → ℕ → PageData → Type 0
IsPageIn o None h budget page = page ≡ page_without o
IsPageIn o (Some p) h budget page = IsPageOf o p h budget page

-- THE PAGE OF A CORE
abbrev pub IsOverview : OptionsData → CoreData → PageData → Type 0
IsOverview o c page = IsPageIn o c.pipeline c.history c.budget page
