use Rattle.std.proofs.Common.{◌≡◌, map, drop}
use Rattle.ccr_pipeline.specs.Inputs.{input_data}
use Rattle.ccr_pipeline.specs.Names.{with_names}
use Rattle.ccr_problem.specs.ProblemOf.{used_resources}
use Rattle.ccr_problem.proofs.inputs.used_resources.Given as goal

abbrev pub invariant-loop-input : goal.invariant-loop-input
invariant-loop-input l =
    with_names l.resources (map (λ i. i.resource) (map input_data (drop l.input-index l.inputs))) ≡ used_resources (map input_data l.inputs)
