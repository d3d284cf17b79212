-- What the parts of a core hold, without where they lie in memory.
use Rattle.std.specs.Prelude.{map, option_map}
use Rattle.ccr_pipeline.specs.Pipelines.{pipeline_data}
use Rattle.ccr_steps.specs.Runs.{run_data}
use Rattle.ccr_core.specs.declared.parts.Parts.{Parts}
use Rattle.ccr_core.specs.Holding.{CoreData, name_data}

-- what a core holds
abbrev pub core_data : Parts → CoreData
core_data p = record {
  history = p.history;
  pipeline = option_map pipeline_data p.pipeline;
  budget = p.budget;
  names = map name_data p.names.items;
  runs = map run_data p.runs.items;
}
