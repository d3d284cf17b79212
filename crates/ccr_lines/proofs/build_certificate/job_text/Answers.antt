use Rattle.std.proofs.Common.{◌≡◌, ◌∙◌, ap, map, take}
use Rattle.ccr_pipeline.specs.Inputs.{input_data, inputs}
use Rattle.ccr_pipeline.specs.Pipelines.{pipeline_data}
use Rattle.ccr_pipeline.specs.Tree.{tree_of}
use Rattle.ccr_lines.proofs.Certified.{judged_so}
use Rattle.ccr_lines.proofs.build_certificate.job_text.Goals as goal

pub returns : goal.returns
returns c =
    let is = inputs (tree_of c.args.job.now.plan.value) in
    let first : map input_data c.deref.result.now ≡ is =
    ap (λ x. map input_data x) c.deref.ensures.value ∙ c.in_ok-gets.ensures.inputs in
    let second : map input_data c.deref-2.result.now ≡ is =
    ap (λ x. map input_data x) c.deref-2.ensures.value ∙ c.in_ok-gets.ensures.inputs in
    let third : map input_data c.deref-3.result.now ≡ is =
    ap (λ x. map input_data x) c.deref-3.ensures.value ∙ c.in_ok-gets.ensures.inputs in
    judged_so (pipeline_data c.args.pipeline.now) c.args.history.now (take c.args.before c.args.history.now.builds) is
    (map input_data c.deref.result.now) (map input_data c.deref-2.result.now) (map input_data c.deref-3.result.now)
    c.args.build.now.used c.in_ok-places.field-0 c.in-Some.places c.took_no_other.result c.taken_text.result first second
    third c.in-Some.is c.in_ok-places.ensures c.took_no_other.ensures c.if-not-took_no_other.false c.taken_text.ensures
