use Rattle.std.proofs.Common.{◌≡◌, map, take}
use Rattle.ccr_overview.specs.PageData.{page_resource_data}
use Rattle.ccr_overview.specs.PageResources.{resource_shown}
use Rattle.ccr_pipeline.specs.JobData.{resource_data}
use Rattle.ccr_overview.proofs.resource.resources_shown.Given as goal

abbrev pub invariant-loop-resource : goal.invariant-loop-resource
invariant-loop-resource l =
    map page_resource_data l.all.items ≡ map (resource_shown l.history) (map resource_data (take l.resource-index l.resources))
