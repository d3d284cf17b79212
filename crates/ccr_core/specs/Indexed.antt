-- The indexes that a core keeps.
use Rattle.std.specs.Prelude.{◌≡◌, List, [], Option, Some, None, option_map}
use Rattle.ccr_history.specs.History.{HistoryData}
use Rattle.ccr_history.specs.declared.change.Reported.{Reported}
use Rattle.ccr_pipeline.specs.Pipelines.{PipelineData, pipeline_data}
use Rattle.ccr_index.specs.Index.{IndexValue}
use Rattle.ccr_problem.specs.Indexes.{AreIndexes, AreBefore}
use Rattle.ccr_core.specs.declared.parts.Parts.{Parts}

-- the indexes are those of the pipeline's jobs with a history; where no pipeline is set there is none
abbrev pub AreIndexesOf : Option PipelineData → HistoryData → List IndexValue → Type 0
AreIndexesOf None h xs = xs ≡ []
AreIndexesOf (Some p) h xs = AreIndexes p h xs

-- what every core keeps of its indexes: each stands for the problem of its job, in order
abbrev pub IsIndexed : Parts → Type 0
IsIndexed p = AreIndexesOf (option_map pipeline_data p.pipeline) p.history p.indexes

-- the history is one after a report, if there is one, and the indexes are those before it
abbrev pub AreReported : PipelineData → HistoryData → Option Reported → List IndexValue → Type 0
AreReported p h None xs = AreIndexes p h xs
AreReported p h (Some r) xs = AreBefore p h r xs
