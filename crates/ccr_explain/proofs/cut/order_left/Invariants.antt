use Rattle.std.proofs.Common.{◌≡◌, [], drop}
use Rattle.ccr_explain.specs.Cut.{order_from}
use Rattle.ccr_explain.proofs.cut.order_left.Given as goal

abbrev pub invariant-loop-i : goal.invariant-loop-i
invariant-loop-i l = order_from l.demands l.i l.order.items (drop l.i l.inputs) ≡ order_from l.demands 0 [] l.inputs
