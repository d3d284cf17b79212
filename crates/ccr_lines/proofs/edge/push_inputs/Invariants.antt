use Rattle.std.proofs.Common.{◌≡◌, ◌++◌, map, drop, flat_map}
use Rattle.ccr_pipeline.specs.Inputs.{input_data}
use Rattle.ccr_pipeline.specs.Pipelines.{pipeline_data}
use Rattle.ccr_lines.specs.Graphs.{input_edges}
use Rattle.ccr_lines.proofs.edge.push_inputs.Given as goal

abbrev pub invariant-loop-input : goal.invariant-loop-input
invariant-loop-input l =
    l.out.items
    ++ flat_map (λ i. input_edges (pipeline_data l.pipeline) i l.k i.passed)
    (map input_data (drop l.input-index l.inputs))
    ≡ l.fn.out.items
    ++ flat_map (λ i. input_edges (pipeline_data l.pipeline) i l.k i.passed) (map input_data l.inputs)
