use Rattle.std.proofs.Common.{option_map, sym, ap}
use Rattle.ccr_pipeline.specs.JobData.{resource_data}
use Rattle.ccr_pipeline.specs.Pipelines.{pipeline_data}
use Rattle.ccr_core.proofs.parts.Parts.has_resource.Goals as goal

pub returns-in-Some-resource-clause-has : goal.returns-in-Some-resource-clause-has
returns-in-Some-resource-clause-has c =
    (pipeline_data c.in-Some.pipeline, resource_data c.in-Some-resource.field-0.now, ap (option_map pipeline_data) c.in-Some.is, sym c.in-Some-resource.ensures)

pub returns-in-None-clause-lacks : goal.returns-in-None-clause-lacks
returns-in-None-clause-lacks c =
    (pipeline_data c.in-Some.pipeline, ap (option_map pipeline_data) c.in-Some.is, sym c.in-None.ensures)
