use Rattle.std.proofs.Common.{◌≡◌, drop, map}
use Rattle.ccr_pipeline.specs.Inputs.{input_data}
use Rattle.ccr_pipeline.specs.Pipelines.{pipeline_data}
use Rattle.ccr_lines.specs.Stops.{input_in}
use Rattle.ccr_lines.proofs.stop.input_in.Given as goal

abbrev pub invariant-loop-input : goal.invariant-loop-input
invariant-loop-input l =
    input_in (pipeline_data l.pipeline) l.history l.scope (map input_data (drop l.input-index l.inputs))
    ≡ input_in (pipeline_data l.pipeline) l.history l.scope (map input_data l.inputs)
