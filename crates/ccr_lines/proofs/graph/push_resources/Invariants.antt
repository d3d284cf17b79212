use Rattle.std.proofs.Common.{◌≡◌, ◌++◌, map, take}
use Rattle.ccr_pipeline.specs.JobData.{resource_data}
use Rattle.ccr_lines.specs.Graphs.{resource_node, numbered}
use Rattle.ccr_lines.proofs.graph.push_resources.Given as goal

abbrev pub invariant-loop-k : goal.invariant-loop-k
invariant-loop-k l =
    l.out.items
    ≡ l.fn.out.items ++ numbered (resource_node l.history) 0 (map resource_data (take l.k l.resources))
