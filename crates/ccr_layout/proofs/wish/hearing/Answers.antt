use Rattle.std.proofs.Common.{◌+◌, List, length, get_or, set, take, sym, ap, ◌∙◌, subst, arith}
use Rattle.ccr_layout.specs.declared.mean.Mean.{Mean}
use Rattle.ccr_layout.specs.Wishes.{hears}
use Rattle.ccr_layout.specs.Means.{joined, mean_in, AreAdded}
use Rattle.ccr_layout.proofs.MeanLaws.{no_line, added_same, added_more, added_all}
use Rattle.ccr_layout.proofs.wish.hearing.Goals as goal
use Rattle.ccr_layout.proofs.wish.hearing.Goals.{then-hears, else-hears}

pub loop-line-preserved : goal.loop-line-preserved
loop-line-preserved c =
    let leaving = c.args.leaving.now in
    let wishes = c.args.wishes.now in
    let heard = c.args.heard.now in
    let i = c.loop-line.line-index in
    let old = c.loop-line.means.items in
    let x = get_or leaving i no_line in
    let P : List Mean → Type 0 = λ ms. AreAdded (hears wishes) (λ x. x.from) (λ x. mean_in heard x.to) (take (i + 1) leaving) (length heard) ms in
    elim c.if-hears.branch [
      | then-hears w ↦ subst P (sym (ap (λ v. v.items) w.means-is ∙ w.join_at.ensures.value ∙ ap (λ m. set old x.from (joined (mean_in old x.from) m)) w.mean_at.ensures))
          (added_more (hears wishes) (λ x. x.from) (λ x. mean_in heard x.to) leaving i (length heard) no_line old c.loop-line.invariant c.loop-line-test.true (sym c.hears.ensures ∙ w.if-hears.true))
      | else-hears w ↦ subst P (sym (ap (λ v. v.items) w.means-is))
          (added_same (hears wishes) (λ x. x.from) (λ x. mean_in heard x.to) leaving i (length heard) no_line old c.loop-line.invariant c.loop-line-test.true (sym c.hears.ensures ∙ w.if-hears.false))
    ]

pub returns : goal.returns
returns c =
    let leaving = c.args.leaving.now in
    let wishes = c.args.wishes.now in
    let heard = c.args.heard.now in
    added_all (hears wishes) (λ x. x.from) (λ x. mean_in heard x.to) leaving c.loop-line.line-index (length heard) c.loop-line.means.items (omega (arith, c.loop-line-test.false)) c.loop-line.invariant
