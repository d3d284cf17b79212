-- What has to be there for a command.
use Rattle.std.specs.Prelude.{◌≡◌, ◌<◌, ◌⊎◌, ℕ, Option, None, IsSome, unwrap_or, option_and_then, ⊤}
use Rattle.serde_json.specs.Read.{read as json}
use Rattle.ccr_history.specs.Text.{Text}
use Rattle.ccr_history.specs.TextMap.{TextMap, text_map_of}
use Rattle.ccr_history.specs.Builds.{build_of, count_of}
use Rattle.ccr_history.specs.History.{HistoryData}
use Rattle.ccr_pipeline.specs.Pipelines.{PipelineData}
use Rattle.ccr_problem.specs.ProblemOf.{resource_of, job_of}
use Rattle.ccr_core.specs.State.{no_pipeline}
use Rattle.ccr_core.specs.declared.fault.CoreFault.{CoreFault}
use Rattle.ccr_core.specs.declared.fault.CoreFault.TheVariants.{NoPipeline, NoJob, NoResource, NoBuild}

-- nothing, a pipeline, a pipeline with a resource or a job of this name, a job that it has or that has builds, such a resource with a text that spells a pin,
-- or a build
pub data Need : Type 0 where
  no_need : Need
  a_pipeline : Need
  a_resource : (name : Text) → Need
  a_job : (name : Text) → Need
  a_known_job : (name : Text) → Need
  a_pin : (resource text : Text) → Need
  a_build : (job : Text) (number : ℕ) → Need

-- the pin that a text spells, if it spells one
abbrev pub pin_in : Text → Option TextMap
pin_in text = option_and_then text_map_of (json text)

-- ---- what is there
-- the pipeline has a resource of this name
abbrev pub IsResource : Text → Option PipelineData → Type 0
IsResource name p = IsSome (resource_of name (unwrap_or p no_pipeline).resources)

-- what is needed is there: in the pipeline that was set, or in the history
abbrev pub IsMet : Need → Option PipelineData → HistoryData → Type 0
IsMet no_need p h = ⊤
IsMet a_pipeline p h = IsSome p
IsMet (a_resource name) p h = IsResource name p
IsMet (a_job name) p h = IsSome (job_of name (unwrap_or p no_pipeline).jobs)
IsMet (a_known_job name) p h = IsSome (job_of name (unwrap_or p no_pipeline).jobs) ⊎ (0 < count_of name h.builds)
IsMet (a_pin resource text) p h = IsResource resource p × IsSome (pin_in text)
IsMet (a_build job number) p h = IsSome (build_of job number h.builds)

-- ---- what is lacking
-- a pipeline is needed, and none was set
abbrev pub LacksPipeline : Need → Option PipelineData → Type 0
LacksPipeline no_need p = ⊥
LacksPipeline a_pipeline p = p ≡ None
LacksPipeline (a_resource name) p = p ≡ None
LacksPipeline (a_job name) p = p ≡ None
LacksPipeline (a_known_job name) p = ⊥
LacksPipeline (a_pin resource text) p = p ≡ None
LacksPipeline (a_build job number) p = ⊥

-- a pipeline was set, and has no resource of this name
abbrev pub IsNoResource : Text → Option PipelineData → Type 0
IsNoResource name p = IsSome p × (resource_of name (unwrap_or p no_pipeline).resources ≡ None)

-- a resource is needed, and the pipeline has none of this name
abbrev pub LacksResource : Need → Option PipelineData → Type 0
LacksResource no_need p = ⊥
LacksResource a_pipeline p = ⊥
LacksResource (a_resource name) p = IsNoResource name p
LacksResource (a_job name) p = ⊥
LacksResource (a_known_job name) p = ⊥
LacksResource (a_pin resource text) p = IsNoResource resource p
LacksResource (a_build job number) p = ⊥

-- a job is needed, and the pipeline has none of this name; nor has it builds, where they would do
abbrev pub LacksJob : Need → Option PipelineData → HistoryData → Type 0
LacksJob no_need p h = ⊥
LacksJob a_pipeline p h = ⊥
LacksJob (a_resource name) p h = ⊥
LacksJob (a_job name) p h = IsSome p × (job_of name (unwrap_or p no_pipeline).jobs ≡ None)
LacksJob (a_known_job name) p h = (job_of name (unwrap_or p no_pipeline).jobs ≡ None) × (count_of name h.builds ≡ 0)
LacksJob (a_pin resource text) p h = ⊥
LacksJob (a_build job number) p h = ⊥

-- a build is needed, and the job has none of this number
abbrev pub LacksBuild : Need → HistoryData → Type 0
LacksBuild no_need h = ⊥
LacksBuild a_pipeline h = ⊥
LacksBuild (a_resource name) h = ⊥
LacksBuild (a_job name) h = ⊥
LacksBuild (a_known_job name) h = ⊥
LacksBuild (a_pin resource text) h = ⊥
LacksBuild (a_build job number) h = build_of job number h.builds ≡ None

-- a pin is needed, and the text spells none; the resource is there
abbrev pub LacksPin : Need → Option PipelineData → Type 0
LacksPin no_need p = ⊥
LacksPin a_pipeline p = ⊥
LacksPin (a_resource name) p = ⊥
LacksPin (a_job name) p = ⊥
LacksPin (a_known_job name) p = ⊥
LacksPin (a_pin resource text) p = IsResource resource p × (pin_in text ≡ None)
LacksPin (a_build job number) p = ⊥

-- WHAT IS LACKING, as the fault that names it
abbrev pub Lacks : Need → Option PipelineData → HistoryData → CoreFault → Type 0
Lacks n p h NoPipeline = LacksPipeline n p
Lacks n p h NoResource = LacksResource n p
Lacks n p h NoJob = LacksJob n p h
Lacks n p h NoBuild = LacksBuild n h
Lacks n p h f = ⊥
