-- What resources and jobs hold, without where it lies in memory.
use Rattle.std.specs.Prelude.{ℕ, Bool, List, Option, map, option_map, string_bytes}
use Rattle.serde_json.specs.Data.{Data}
use Rattle.ccr_history.specs.ObjectData.{object_data}
use Rattle.ccr_history.specs.Scopes.{ScopeData}
use Rattle.ccr_history.specs.TextMap.{TextMap}
use Rattle.ccr_pipeline.specs.declared.resource.Resource.{Resource}
use Rattle.ccr_pipeline.specs.declared.resource.Job.{Job}
use Rattle.ccr_pipeline.specs.Scopes.{scope_with}
use Rattle.ccr_pipeline.specs.Tree.{Text, Tree, tree_of}

-- what a resource holds: what it and its type are called, its source, and the pin that the pipeline sets
pub record ResourceData : Type 0 where
  pub name : Text
  pub kind : Text
  pub source : Option Data
  pub version : Option TextMap

-- what a resource holds, without where it lies in memory
abbrev pub resource_data : Resource → ResourceData
resource_data r = record {
  name = string_bytes r.name;
  kind = string_bytes r.kind;
  source = option_map object_data r.source;
  version = r.version;
}

-- the scope that a resource's versions belong to: its name, its type, and its source as compact text
abbrev pub scope_of : ResourceData → ScopeData
scope_of r = scope_with r.name r.kind r.source

-- what a job holds: its name and plan, and how many of its builds may run beside one another
pub record JobData : Type 0 where
  pub name : Text
  pub plan : Tree
  pub serial : Bool
  pub serial_groups : List Text
  pub max_in_flight : ℕ

-- what a job holds, without where it lies in memory
abbrev pub job_data : Job → JobData
job_data j = record {
  name = string_bytes j.name;
  plan = tree_of j.plan.value;
  serial = j.serial;
  serial_groups = map string_bytes j.serial_groups.items;
  max_in_flight = j.max_in_flight;
}
