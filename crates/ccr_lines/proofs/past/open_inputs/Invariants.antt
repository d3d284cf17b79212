use Rattle.std.proofs.Common.{◌≡◌, List, map, take}
use Rattle.ccr_history.specs.Text.{Text}
use Rattle.ccr_pipeline.specs.Inputs.{input_data}
use Rattle.ccr_pipeline.specs.Pipelines.{pipeline_data}
use Rattle.ccr_problem.specs.ProblemOf.{input_value}
use Rattle.ccr_lines.specs.PastProblems.{open_input}
use Rattle.ccr_lines.proofs.past.open_inputs.Given as goal

abbrev pub invariant-loop-k : goal.invariant-loop-k
invariant-loop-k l =
    (own : Text) (resources jobs : List Text)
    → l.values ≡ map (input_value (pipeline_data l.pipeline) l.history own resources jobs) (map input_data l.inputs)
    → l.open.items ≡ map (open_input (pipeline_data l.pipeline) l.history resources jobs) (map input_data (take l.k l.inputs))
