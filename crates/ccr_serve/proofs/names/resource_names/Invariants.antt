use Rattle.std.proofs.Common.{◌≡◌, ◌++◌, map, drop, string_bytes}
use Rattle.ccr_pipeline.specs.JobData.{resource_data}
use Rattle.ccr_serve.proofs.names.resource_names.Given as goal

abbrev pub invariant-loop-resource : goal.invariant-loop-resource
invariant-loop-resource l =
    map string_bytes l.names.items ++ map (λ r. r.name) (map resource_data (drop l.resource-index l.resources))
    ≡ map (λ r. r.name) (map resource_data l.resources)
