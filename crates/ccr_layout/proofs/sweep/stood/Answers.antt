use Rattle.ccr_layout.proofs.StepLaws.{column_placed}
use Rattle.ccr_layout.proofs.sweep.stood.Goals as goal

pub returns : goal.returns
returns c =
    column_placed c.args.spans.now c.args.column c.as_slice-order.result.now c.in_ok-order.order.items c.in_ok-placed.placed.items c.in_ok-placed.ensures c.as_slice-order.ensures.value c.in_ok-order.ensures.all
