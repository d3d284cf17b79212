use Rattle.std.proofs.Common.{◌∙◌, arith}
use Rattle.ccr_explain.proofs.Steps.{demands_more}
use Rattle.ccr_explain.proofs.demand.demands_of.Goals as goal

pub loop-i-preserved : goal.loop-i-preserved
loop-i-preserved c =
    demands_more c.loop-i.i c.args.inputs.now c.index-inputs-i.result c.loop-i.demands.items c.add_demands.new.demands.items (omega arith) c.index-inputs-i.is c.in_ok-add_demands.ensures
    ∙ c.loop-i.invariant
