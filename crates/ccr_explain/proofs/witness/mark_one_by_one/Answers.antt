use Rattle.std.proofs.Common.{refl}
use Rattle.ccr_explain.proofs.Reducing.{goes_none, goes_both}
use Rattle.ccr_explain.proofs.witness.mark_one_by_one.Goals as goal

pub loop-k-init : goal.loop-k-init
loop-k-init c =
    let p = c.args.problem.now in
    goes_none p c.args.demands.now c.args.is_needed.now.items c.args.is_needed.now.items refl

pub loop-k-preserved : goal.loop-k-preserved
loop-k-preserved c =
    let p = c.args.problem.now in
    goes_both p c.args.demands.now c.args.is_needed.now.items c.loop-k.is_needed.items c.mark_without.new.is_needed.items c.loop-k.invariant
    (record { long = c.in_ok-mark_without.ensures.length; needed = c.in_ok-mark_without.ensures.needed })
