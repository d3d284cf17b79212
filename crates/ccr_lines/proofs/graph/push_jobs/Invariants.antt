use Rattle.std.proofs.Common.{◌≡◌, ◌++◌, map, take}
use Rattle.ccr_pipeline.specs.JobData.{job_data}
use Rattle.ccr_lines.specs.Graphs.{job_node, numbered}
use Rattle.ccr_lines.proofs.graph.push_jobs.Given as goal

abbrev pub invariant-loop-k : goal.invariant-loop-k
invariant-loop-k l =
    l.out.items
    ≡ l.fn.out.items ++ numbered (job_node l.history) 0 (map job_data (take l.k l.jobs))
