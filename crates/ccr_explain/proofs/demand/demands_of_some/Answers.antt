use Rattle.std.proofs.Common.{Vec, Global, All, subst, sym, arith}
use Rattle.ccr_explain.specs.declared.demand.Demand.{Demand}
use Rattle.ccr_explain.specs.Demand.{IsDemandOf}
use Rattle.ccr_explain.proofs.Steps.{demands_pushed}
use Rattle.ccr_explain.proofs.demand.demands_of_some.Goals.{then-contains+in_ok-add_demands, else-contains}
use Rattle.ccr_explain.proofs.demand.demands_of_some.Goals as goal

pub loop-i-preserved : goal.loop-i-preserved
loop-i-preserved c = λ jobs.
    let P : Vec Demand Global → Type 0 = λ v. All (IsDemandOf (record { inputs = c.args.inputs.now; jobs = jobs })) v.items in
    elim c.if-contains.branch [
      | then-contains+in_ok-add_demands w ↦ subst P (sym w.demands-is)
          (demands_pushed c.args.inputs.now jobs c.loop-i.i-counter w.index-inputs-i.result c.loop-i.demands.items w.add_demands.new.demands.items (omega arith)
          w.index-inputs-i.is w.in_ok-add_demands.ensures (c.loop-i.invariant jobs))
      | else-contains w ↦ subst P (sym w.demands-is) (c.loop-i.invariant jobs)
    ]
