use Rattle.std.proofs.Common.{◌≡◌, ◌++◌, map, take}
use Rattle.ccr_pipeline.specs.JobData.{resource_data, job_data}
use Rattle.ccr_lines.specs.Graphs.{put_edge, numbered}
use Rattle.ccr_lines.proofs.edge.push_edges_from.Given as goal

abbrev pub invariant-loop-n : goal.invariant-loop-n
invariant-loop-n l =
    l.out.items
    ≡ l.fn.out.items ++ numbered (put_edge (job_data l.job).plan l.k) 0 (map resource_data (take l.n l.resources))
