use Rattle.std.proofs.Common.{◌+◌, List, length, get_or, set, take, sym, ap, ◌∙◌, subst, arith}
use Rattle.ccr_layout.specs.declared.mean.Mean.{Mean}
use Rattle.ccr_layout.specs.Wishes.{is_heard, middle_mean}
use Rattle.ccr_layout.specs.Means.{joined, mean_of, mean_in, AreAdded}
use Rattle.ccr_layout.proofs.MeanLaws.{no_line, added_same, added_more, added_all}
use Rattle.ccr_layout.proofs.wish.heard_at.Goals as goal
use Rattle.ccr_layout.proofs.wish.heard_at.Goals.{then-is_heard, else-is_heard}

pub loop-line-preserved : goal.loop-line-preserved
loop-line-preserved c =
    let leaving = c.args.leaving.now in
    let wishes = c.args.wishes.now in
    let middles = c.args.middles.now in
    let i = c.loop-line.line-index in
    let old = c.loop-line.means.items in
    let x = get_or leaving i no_line in
    let P : List Mean → Type 0 = λ ms. AreAdded (is_heard wishes) (λ x. x.to) (middle_mean middles) (take (i + 1) leaving) (length middles) ms in
    elim c.if-is_heard.branch [
      | then-is_heard w ↦ subst P (sym (ap (λ v. v.items) w.means-is ∙ w.add_at.ensures.value ∙ ap (λ m. set old x.to (joined (mean_in old x.to) (mean_of m))) w.at.ensures))
          (added_more (is_heard wishes) (λ x. x.to) (middle_mean middles) leaving i (length middles) no_line old c.loop-line.invariant c.loop-line-test.true (sym c.is_heard.ensures ∙ w.if-is_heard.true))
      | else-is_heard w ↦ subst P (sym (ap (λ v. v.items) w.means-is))
          (added_same (is_heard wishes) (λ x. x.to) (middle_mean middles) leaving i (length middles) no_line old c.loop-line.invariant c.loop-line-test.true (sym c.is_heard.ensures ∙ w.if-is_heard.false))
    ]

pub returns : goal.returns
returns c =
    let leaving = c.args.leaving.now in
    let wishes = c.args.wishes.now in
    let middles = c.args.middles.now in
    added_all (is_heard wishes) (λ x. x.to) (middle_mean middles) leaving c.loop-line.line-index (length middles) c.loop-line.means.items (omega (arith, c.loop-line-test.false)) c.loop-line.invariant
