use Rattle.std.proofs.Common.{◌≡◌, ◌++◌, drop}
use Rattle.ccr_explain.specs.Cut.{cut_from}
use Rattle.ccr_explain.proofs.cut.cut_inputs.Given as goal

abbrev pub invariant-loop-i : goal.invariant-loop-i
invariant-loop-i l = l.cut.items ++ cut_from l.demands l.order l.top l.i (drop l.i l.inputs) ≡ cut_from l.demands l.order l.top 0 l.inputs
