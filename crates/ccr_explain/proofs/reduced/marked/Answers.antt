use Rattle.std.proofs.Common.{◌∙◌, ap, arith}
use Rattle.ccr_explain.proofs.Reducing.{marked_takes, marked_leaves}
use Rattle.ccr_explain.proofs.reduced.marked.Goals.{then-marks-k+in_ok-push, else-marks-k}
use Rattle.ccr_explain.proofs.reduced.marked.Goals as goal

pub loop-k-preserved : goal.loop-k-preserved
loop-k-preserved c =
    let ds = c.args.demands.now in
    let marks = c.args.marks.now in
    let k = c.loop-k.k in
    elim c.if-marks-k.branch [
      | then-marks-k+in_ok-push w ↦
          marked_takes ds marks k c.loop-k.some.items c.if-marks-k.some.items c.loop-k-test.true (omega (arith, c.loop-k-test.true, c.requires)) w.if-marks-k.true
          (ap (λ v. v.items) w.some-is ∙ w.in_ok-push.ensures.items) ∙ c.loop-k.invariant
      | else-marks-k w ↦
          marked_leaves ds marks k c.loop-k.some.items c.if-marks-k.some.items c.loop-k-test.true (omega (arith, c.loop-k-test.true, c.requires)) w.if-marks-k.false
          (ap (λ v. v.items) w.some-is) ∙ c.loop-k.invariant
    ]
