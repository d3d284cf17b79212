use Rattle.std.proofs.Common.{◌<◌, arith, sym, ◌∙◌}
use Rattle.std.proofs.lemmas.Result.{IfOk-weaker}
use Rattle.ccr_pipeline.specs.Tree.{tree_of}
use Rattle.ccr_steps.specs.Gains.{gains_data}
use Rattle.ccr_steps.proofs.Begins.{retry_came}
use Rattle.ccr_steps.proofs.begin.retry.Goals as goal

pub returns : goal.returns
returns c =
    let some : 0 < c.args.left = omega arith in
    IfOk-weaker c.begin_tries.result _ _ (λ r came n. retry_came c.args.left (tree_of c.args.step.now) c.args.outcome (gains_data c.args.gains.now) c.args.frames.now.items _ n r some (sym c.is_tried_again.ensures ∙ c.if-not-is_tried_again.false) (came n)) c.begin_tries.ensures
