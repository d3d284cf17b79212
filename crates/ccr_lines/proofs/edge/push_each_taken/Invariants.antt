use Rattle.std.proofs.Common.{◌≡◌, ◌++◌, map, take}
use Rattle.ccr_pipeline.specs.Inputs.{input_data}
use Rattle.ccr_pipeline.specs.JobData.{resource_data}
use Rattle.ccr_lines.specs.Graphs.{taken_edge, numbered}
use Rattle.ccr_lines.proofs.edge.push_each_taken.Given as goal

abbrev pub invariant-loop-n : goal.invariant-loop-n
invariant-loop-n l =
    l.out.items
    ≡ l.fn.out.items ++ numbered (taken_edge (input_data l.input) l.k) 0 (map resource_data (take l.n l.resources))
