use Rattle.std.proofs.Common.{arith}
use Rattle.std.proofs.lemmas.List.Elements.{All-more}
use Rattle.ccr_explain.specs.declared.demand.Demand.TheVariants.{Allowed}
use Rattle.ccr_explain.specs.Demand.{Meets}
use Rattle.ccr_explain.proofs.Steps.{all_taken}
use Rattle.ccr_explain.proofs.meets.meet_each.Goals as goal

pub loop-demand-preserved : goal.loop-demand-preserved
loop-demand-preserved c =
    let p = c.args.problem.now in
    let ds = c.args.demands.now in
    All-more (Meets p c.args.choice.now.places c.args.choice.now.builds) ds c.loop-demand.demand-index (Allowed 0) (omega arith) c.loop-demand.invariant (c.meets.ensures c.if-not-meets.false)

pub returns : goal.returns
returns c =
    let p = c.args.problem.now in
    λ _. all_taken (Meets p c.args.choice.now.places c.args.choice.now.builds) c.args.demands.now c.loop-demand.demand-index (omega arith) c.loop-demand.invariant
