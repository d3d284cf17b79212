-- What a core begins with: the history that it is given, in which what still runs is cut short.
use Rattle.std.specs.Prelude.{◌≡◌, ℕ, List, [], ◌∷◌, map, Option, Some, None, if◌then◌else◌, ⊤}
use Rattle.serde_json.specs.Data.{Data}
use Rattle.ccr_history.specs.Text.{Text}
use Rattle.ccr_history.specs.Builds.{BuildData, is_running}
use Rattle.ccr_history.specs.Changes.{EditData, ended, changed}
use Rattle.ccr_history.specs.History.{HistoryData}
use Rattle.ccr_history.specs.declared.build.Status.TheVariants.{Errored}
use Rattle.ccr_pipeline.specs.Pipelines.{PipelineData, IsPipelineOf}
use Rattle.ccr_pipeline.specs.Reading.{IsTextOf, IsReading, pipeline_faults}
use Rattle.ccr_core.specs.Holding.{CoreData}

-- the build of this name is errored, and has moved nothing
abbrev pub cut_name : Text × ℕ → EditData
cut_name n = ended n.0 n.1 Errored []

-- the names of the builds that run in a history, in order of making
abbrev pub running_in : List BuildData → List (Text × ℕ)
running_in [] = []
running_in (b ∷ bs) = if is_running b.status then (b.job, b.number) ∷ running_in bs else running_in bs

-- what is changed of a history before a core begins: each build that runs is cut short, in order of making
abbrev pub resumed : HistoryData → List EditData
resumed h = map cut_name (running_in h.builds)

-- a pipeline can be read from the text
abbrev pub IsReadable : Text → Type 0
IsReadable t = (d : Data) × IsTextOf t d × (pipeline_faults d ≡ [])

-- the pipeline that is read from a text, if there is one
abbrev pub IsPipelineIn : Option Text → Option PipelineData → Type 0
IsPipelineIn None None = ⊤
IsPipelineIn (Some t) (Some p) = IsReading pipeline_faults t (λ d. IsPipelineOf t d p)
IsPipelineIn t p = ⊥

-- a core that begins with a history: what ran in it was cut short, nothing runs, and the pipeline is that of the
-- history's text
pub record IsResumed (h : HistoryData) (budget : ℕ) (c : CoreData) : Type 0 where
  pub history : c.history ≡ changed (resumed h) h
  pub pipeline : IsPipelineIn h.text c.pipeline
  pub budget_is : c.budget ≡ budget
  pub names : c.names ≡ []
  pub runs : c.runs ≡ []

-- a core over a history as it stands: what runs in it does so still, though no build is among the machines, and the pipeline
-- is that of the history's text
pub record IsOver (h : HistoryData) (budget : ℕ) (c : CoreData) : Type 0 where
  pub history : c.history ≡ h
  pub pipeline : IsPipelineIn h.text c.pipeline
  pub budget_is : c.budget ≡ budget
  pub names : c.names ≡ []
  pub runs : c.runs ≡ []
