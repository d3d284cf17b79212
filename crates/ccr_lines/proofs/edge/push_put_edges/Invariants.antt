use Rattle.std.proofs.Common.{◌≡◌, ◌++◌, map, take}
use Rattle.ccr_pipeline.specs.JobData.{resource_data, job_data}
use Rattle.ccr_lines.specs.Graphs.{edges_from, numbered}
use Rattle.ccr_lines.proofs.edge.push_put_edges.Given as goal

abbrev pub invariant-loop-k : goal.invariant-loop-k
invariant-loop-k l =
    l.out.items
    ≡ l.fn.out.items ++ numbered (edges_from (map resource_data l.resources)) 0 (map job_data (take l.k l.jobs))
