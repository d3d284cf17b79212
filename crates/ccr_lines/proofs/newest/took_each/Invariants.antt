use Rattle.std.proofs.Common.{◌≡◌, drop, map}
use Rattle.ccr_pipeline.specs.Inputs.{input_data}
use Rattle.ccr_pipeline.specs.Pipelines.{pipeline_data}
use Rattle.ccr_lines.specs.Newest.{took_each}
use Rattle.ccr_lines.proofs.newest.took_each.Given as goal

abbrev pub invariant-loop-k : goal.invariant-loop-k
invariant-loop-k l =
    took_each (pipeline_data l.pipeline) l.history (map input_data (drop l.k l.inputs)) (drop l.k l.places) l.build
    ≡ took_each (pipeline_data l.pipeline) l.history (map input_data l.inputs) l.places l.build
