use Rattle.std.proofs.Common.{◌≡◌, ◌++◌, map, take}
use Rattle.ccr_pipeline.specs.Inputs.{input_data}
use Rattle.ccr_pipeline.specs.JobData.{job_data}
use Rattle.ccr_lines.specs.Graphs.{passed_edge, numbered}
use Rattle.ccr_lines.proofs.edge.push_each_passed.Given as goal

abbrev pub invariant-loop-n : goal.invariant-loop-n
invariant-loop-n l =
    l.out.items
    ≡ l.fn.out.items ++ numbered (passed_edge (input_data l.input) l.k l.name) 0 (map job_data (take l.n l.jobs))
