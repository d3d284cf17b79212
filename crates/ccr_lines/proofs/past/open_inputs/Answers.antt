use Rattle.std.proofs.Common.{◌++◌, ◌∷◌, ◌∙◌, [], sym, ap}
use Rattle.ccr_pipeline.specs.Pipelines.{pipeline_data}
use Rattle.ccr_lines.proofs.PastLaws.{inputs_told}
use Rattle.ccr_lines.proofs.past.open_inputs.Goals as goal

pub loop-k-preserved : goal.loop-k-preserved
loop-k-preserved c = λ own resources jobs are.
    let old = c.loop-k.open.items in
    inputs_told (pipeline_data c.args.pipeline.now) c.args.history.now own resources jobs c.args.values.now
    c.args.inputs.now c.loop-k.k c.index-values-k.result c.index-inputs-k.result old c.push.new.self.items are
    c.loop-k-test.true (sym c.index-inputs-k.is) (sym c.index-values-k.is) (c.loop-k.invariant own resources jobs are)
    (c.in_ok-push.ensures.items ∙ ap (λ x. old ++ x ∷ []) c.in_ok-open_input.ensures)
