use Rattle.std.proofs.Common.{◌≡◌, map, drop}
use Rattle.ccr_pipeline.specs.JobData.{resource_data}
use Rattle.ccr_pipeline.specs.Named.{resource_of}
use Rattle.ccr_pipeline.proofs.pipeline.Pipeline.resource.Given as goal

abbrev pub invariant-loop-resource : goal.invariant-loop-resource
invariant-loop-resource l = resource_of l.name (map resource_data (drop l.resource-index l.self.resources.items)) ≡ resource_of l.name (map resource_data l.self.resources.items)
