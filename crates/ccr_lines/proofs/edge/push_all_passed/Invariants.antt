use Rattle.std.proofs.Common.{◌≡◌, ◌++◌, map, drop, flat_map, string_bytes}
use Rattle.ccr_pipeline.specs.Inputs.{input_data}
use Rattle.ccr_pipeline.specs.JobData.{job_data}
use Rattle.ccr_lines.specs.Graphs.{passed_edge, numbered}
use Rattle.ccr_lines.proofs.edge.push_all_passed.Given as goal

abbrev pub invariant-loop-name : goal.invariant-loop-name
invariant-loop-name l =
    l.out.items
    ++ flat_map (λ passed. numbered (passed_edge (input_data l.input) l.k passed) 0 (map job_data l.jobs))
    (map string_bytes (drop l.name-index l.names))
    ≡ l.fn.out.items
    ++ flat_map (λ passed. numbered (passed_edge (input_data l.input) l.k passed) 0 (map job_data l.jobs))
    (map string_bytes l.names)
