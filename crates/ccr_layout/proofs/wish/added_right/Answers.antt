use Rattle.std.proofs.Common.{◌+◌, List, get_or, set, take, true, refl, sym, ap, ◌∙◌, subst, arith}
use Rattle.ccr_layout.specs.declared.mean.Mean.{Mean}
use Rattle.ccr_layout.specs.Wishes.{right_mean}
use Rattle.ccr_layout.specs.Means.{joined, mean_in, AreAdded}
use Rattle.ccr_layout.proofs.MeanLaws.{no_line, added_more, added_all}
use Rattle.ccr_layout.proofs.wish.added_right.Goals as goal

pub loop-line-preserved : goal.loop-line-preserved
loop-line-preserved c =
    let leaving = c.args.leaving.now in
    let tops = c.args.tops.now in
    let nodes = c.args.nodes in
    let i = c.loop-line.line-index in
    let old = c.loop-line.means.items in
    let x = get_or leaving i no_line in
    let P : List Mean → Type 0 = λ ms. AreAdded (λ x. true) (λ x. x.from) (right_mean tops) (take (i + 1) leaving) (nodes) ms in
    subst P (sym (c.add_at.ensures.value ∙ ap (λ m. set old x.from (joined (mean_in old x.from) m)) c.right_level.ensures))
    (added_more (λ x. true) (λ x. x.from) (right_mean tops) leaving i (nodes) no_line old c.loop-line.invariant c.loop-line-test.true refl)

pub returns : goal.returns
returns c =
    let leaving = c.args.leaving.now in
    let tops = c.args.tops.now in
    let nodes = c.args.nodes in
    added_all (λ x. true) (λ x. x.from) (right_mean tops) leaving c.loop-line.line-index (nodes) c.loop-line.means.items (omega (arith, c.loop-line-test.false)) c.loop-line.invariant
