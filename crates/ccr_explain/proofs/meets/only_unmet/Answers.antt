use Rattle.std.proofs.Common.{length, ap, arith}
use Rattle.ccr_explain.specs.Demand.{Meets}
use Rattle.ccr_explain.proofs.Reducing.{unmet_first, unmet_met, unmet_new, unmet_within, unmet_others}
use Rattle.ccr_explain.proofs.meets.only_unmet.Goals.{then-not-meets+in-None, else-not-meets}
use Rattle.ccr_explain.proofs.meets.only_unmet.Goals as goal

pub loop-m-init : goal.loop-m-init
loop-m-init c =
    let p = c.args.problem.now in
    unmet_first (Meets p c.args.choice.now.places c.args.choice.now.builds) c.args.demands.now 0

pub loop-m-preserved : goal.loop-m-preserved
loop-m-preserved c =
    let p = c.args.problem.now in
    let met = Meets p c.args.choice.now.places c.args.choice.now.builds in
    elim c.if-not-meets.branch [
      | then-not-meets+in-None w ↦ unmet_new met c.args.demands.now c.loop-m.m c.loop-m.unmet c.if-not-meets.unmet c.loop-m.invariant w.in-None.is w.unmet-is
      | else-not-meets w ↦ unmet_met met c.args.demands.now c.loop-m.m c.loop-m.unmet c.if-not-meets.unmet c.loop-m-test.true c.loop-m.invariant w.unmet-is (c.meets.ensures w.if-not-meets.false)
    ]

pub returns-clause-within : goal.returns-clause-within
returns-clause-within c =
    let p = c.args.problem.now in
    unmet_within (Meets p c.args.choice.now.places c.args.choice.now.builds) c.args.demands.now c.loop-m.m c.loop-m.unmet c.loop-m.auto.m-end c.loop-m.invariant

pub returns-clause-others : goal.returns-clause-others
returns-clause-others c =
    let p = c.args.problem.now in
    unmet_others p c.args.choice.now.places c.args.choice.now.builds c.args.demands.now c.loop-m.m c.loop-m.unmet
    (omega (arith, ap (λ v. length v.places) c.choice.view_is, c.len.ensures, c.if-len-inputs.false, ap length c.inputs-inputs.ensures.value)) (omega (arith, ap (λ v. length v.builds) c.choice.view_is, c.len-else-len-inputs.ensures, c.if-len-job_count.false, c.job_count.ensures))
    c.loop-m-test.false c.loop-m.auto.m-end c.loop-m.invariant
