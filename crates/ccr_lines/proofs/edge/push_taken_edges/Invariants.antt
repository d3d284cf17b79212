use Rattle.std.proofs.Common.{◌≡◌, ◌++◌, map, take}
use Rattle.ccr_pipeline.specs.JobData.{job_data}
use Rattle.ccr_pipeline.specs.Pipelines.{pipeline_data}
use Rattle.ccr_lines.specs.Graphs.{edges_to, numbered}
use Rattle.ccr_lines.proofs.edge.push_taken_edges.Given as goal

abbrev pub invariant-loop-k : goal.invariant-loop-k
invariant-loop-k l =
    l.out.items
    ≡ l.fn.out.items ++ numbered (edges_to (pipeline_data l.pipeline)) 0 (map job_data (take l.k l.jobs))
