-- What a pipeline is read as, where no fault is present in it.
use Rattle.std.specs.Prelude.{◌≡◌, ℕ, List, [], ◌∷◌, map, string_bytes, codes, IsTrue, ◌&&◌}
use Rattle.serde_json.specs.Data.{Data, Items, no_items, item}
use Rattle.ccr_pipeline.specs.declared.pipeline.Pipeline.{Pipeline}
use Rattle.ccr_pipeline.specs.Inputs.{inputs}
use Rattle.ccr_pipeline.specs.JobData.{ResourceData, resource_data, JobData, job_data}
use Rattle.ccr_pipeline.specs.Keys.{list_at}
use Rattle.ccr_pipeline.specs.Meaning.{text_or, texts_from, truth_from, whole_from, object_at, pin_from}
use Rattle.ccr_pipeline.specs.Kinds.{is_name}
use Rattle.ccr_pipeline.specs.Limits.{IsPlan}
use Rattle.ccr_pipeline.specs.Plans.{plan_from, inputs_read}
use Rattle.ccr_pipeline.specs.Printed.{pipeline_value}
use Rattle.ccr_pipeline.specs.Reading.{pipeline_faults}
use Rattle.ccr_pipeline.specs.Tree.{Text}
use Rattle.ccr_pipeline.specs.Untimed.{untimed_job}
use Rattle.ccr_pipeline.specs.Used.{used_pipeline, bare_pipeline}
use Rattle.ccr_pipeline.specs.Unused.{unused_in, IsSortedOnce}

-- a resource
abbrev pub resource_from : Data → ResourceData
resource_from d = record {
  name = text_or [] (codes "name") d;
  kind = text_or [] (codes "type") d;
  source = object_at (codes "source") d;
  version = pin_from (codes "version") d;
}

-- the resources of a list
abbrev pub resources_in : Items → List ResourceData
resources_in no_items = []
resources_in (item d ds) = resource_from d ∷ resources_in ds

-- a pipeline's resources
abbrev pub resources_from : Data → List ResourceData
resources_from d = resources_in (list_at (codes "resources") d)

-- a job
unfoldable pub job_from : Data → JobData
job_from d = record {
  name = text_or [] (codes "name") d;
  plan = plan_from d;
  serial = truth_from (codes "serial") d;
  serial_groups = texts_from (codes "serial_groups") d;
  max_in_flight = whole_from (codes "max_in_flight") d;
}

-- the jobs of a list
abbrev pub jobs_in : Items → List JobData
jobs_in no_items = []
jobs_in (item d ds) = job_from d ∷ jobs_in ds

-- a pipeline's jobs
abbrev pub jobs_from : Data → List JobData
jobs_from d = jobs_in (list_at (codes "jobs") d)

-- what a job is called may be a name, and its plan keeps the limits
abbrev pub IsJob : Data → Type 0
IsJob d = IsTrue (is_name (text_or [] (codes "name") d)) × IsPlan (plan_from d)

-- what a resource and its type are called may be a name
abbrev pub IsResource : Data → Type 0
IsResource d = IsTrue (is_name (text_or [] (codes "name") d) && is_name (text_or [] (codes "type") d))

-- two values have the same faults, and are read as the same resources and jobs
pub record SaysTheSame (e d : Data) : Type 0 where
  pub faults : pipeline_faults e ≡ pipeline_faults d
  pub resources : resources_from e ≡ resources_from d
  pub jobs : jobs_from e ≡ jobs_from d

-- two values have the same faults, and are read as the same resources and as the same jobs but for their timeouts
pub record SaysTheSameUntimed (e d : Data) : Type 0 where
  pub faults : pipeline_faults e ≡ pipeline_faults d
  pub resources : resources_from e ≡ resources_from d
  pub jobs : map untimed_job (jobs_from e) ≡ map untimed_job (jobs_from d)

-- these resources and jobs, printed as a JSON value, are read as the same: no fault is present in it
pub record AreReadAgain (rs : List ResourceData) (js : List JobData) : Type 0 where
  pub faults : pipeline_faults (pipeline_value rs js) ≡ []
  pub resources : resources_from (pipeline_value rs js) ≡ rs
  pub jobs : jobs_from (pipeline_value rs js) ≡ js

-- what a pipeline shows: the bytes read, the paths of its unused keys, its resources and its jobs
pub record PipelineData : Type 0 where
  pub text : List ℕ
  pub unused : List Text
  pub resources : List ResourceData
  pub jobs : List JobData

-- what a pipeline shows, without where it lies in memory
abbrev pub pipeline_data : Pipeline → PipelineData
pipeline_data p = record {
  text = p.text.items;
  unused = map string_bytes p.unused.items;
  resources = map resource_data p.resources.items;
  jobs = map job_data p.jobs.items;
}

-- the pipeline of a text that spells this value
pub record IsPipelineOf (text : List ℕ) (d : Data) (p : PipelineData) : Type 0 where
  pub bytes : p.text ≡ text
  pub resources : p.resources ≡ resources_from d
  pub jobs : p.jobs ≡ jobs_from d
  pub unused : IsSortedOnce (unused_in d) p.unused
  -- any value that differs from its own in keys without effect alone, and in no timeout of a get, a put or a task, has
  -- the same faults, and is read as the same
  pub effectless : (e : Data) → used_pipeline e ≡ used_pipeline d → SaysTheSame e d
  -- a timeout changes nothing of what is read but itself: any value that differs from its own in keys without effect
  -- and in timeouts of gets, puts and tasks has the same faults, and is read as the same but for these timeouts
  pub untimed : (e : Data) → bare_pipeline e ≡ bare_pipeline d → SaysTheSameUntimed e d
  -- the inputs of each job are the gets of its text, in the order in which they are read
  pub inputs : map (λ j. inputs j.plan) p.jobs ≡ inputs_read 0 (list_at (codes "jobs") d)
  -- printed as a JSON value, they are read as the same
  pub printed : AreReadAgain p.resources p.jobs
