use Rattle.std.proofs.Common.{◌∙◌, ap, arith, map, length}
use Rattle.std.proofs.lemmas.List.{length-map}
use Rattle.ccr_pipeline.specs.Inputs.{input_data, are_few}
use Rattle.ccr_pipeline.specs.Pipelines.{pipeline_data}
use Rattle.ccr_problem.specs.ProblemOf.{history_number}
use Rattle.ccr_problem.proofs.Kept.{few_resources}
use Rattle.ccr_problem.proofs.coming.passed_to.Goals as goal

pub cut_to-requires : goal.cut_to-requires
cut_to-requires c =
    let numbers = ap length (c.deref-3.ensures.value ∙ c.in_ok-scopes.ensures ∙ ap (map (history_number (pipeline_data c.args.pipeline.now) c.args.history.now)) c.names.ensures) in
    let same = length-map c.in_ok-resources.resources (history_number (pipeline_data c.args.pipeline.now) c.args.history.now) in
    let is = ap (map input_data) c.deref-2.ensures.value ∙ c.in_ok-inputs.ensures.inputs in
    omega (arith, numbers, same, ap length c.in_ok-resources.ensures, few_resources (map input_data c.deref-2.result.now) (ap are_few is ∙ c.in_ok-inputs.ensures.few))
