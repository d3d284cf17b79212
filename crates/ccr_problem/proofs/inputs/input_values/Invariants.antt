use Rattle.std.proofs.Common.{◌≡◌, ◌++◌, map, drop}
use Rattle.ccr_pipeline.specs.Inputs.{input_data}
use Rattle.ccr_pipeline.specs.Pipelines.{pipeline_data}
use Rattle.ccr_problem.specs.ProblemOf.{input_value}
use Rattle.ccr_problem.proofs.inputs.input_values.Given as goal

abbrev pub invariant-loop-input : goal.invariant-loop-input
invariant-loop-input l =
    l.values.items ++ map (input_value (pipeline_data l.pipeline) l.history l.own l.resources l.jobs) (map input_data (drop l.input-index l.inputs))
    ≡ map (input_value (pipeline_data l.pipeline) l.history l.own l.resources l.jobs) (map input_data l.inputs)
