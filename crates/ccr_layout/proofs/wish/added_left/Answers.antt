use Rattle.std.proofs.Common.{◌+◌, List, length, get_or, set, take, sym, ap, ◌∙◌, subst, arith}
use Rattle.ccr_layout.specs.declared.mean.Mean.{Mean}
use Rattle.ccr_layout.specs.Wishes.{counts_left, left_mean}
use Rattle.ccr_layout.specs.Means.{joined, mean_in, AreAdded}
use Rattle.ccr_layout.proofs.MeanLaws.{no_line, added_same, added_more, added_all}
use Rattle.ccr_layout.proofs.wish.added_left.Goals as goal
use Rattle.ccr_layout.proofs.wish.added_left.Goals.{then-counts_left, else-counts_left}

pub loop-line-preserved : goal.loop-line-preserved
loop-line-preserved c =
    let lines = c.args.lines.now in
    let all = c.args.all in
    let middles = c.args.middles.now in
    let i = c.loop-line.line-index in
    let old = c.loop-line.means.items in
    let x = get_or lines i no_line in
    let P : List Mean → Type 0 = λ ms. AreAdded (counts_left all) (λ x. x.to) (left_mean middles) (take (i + 1) lines) (length middles) ms in
    elim c.if-counts_left.branch [
      | then-counts_left w ↦ subst P (sym (ap (λ v. v.items) w.means-is ∙ w.add_at.ensures.value ∙ ap (λ m. set old x.to (joined (mean_in old x.to) m)) w.left_height.ensures))
          (added_more (counts_left all) (λ x. x.to) (left_mean middles) lines i (length middles) no_line old c.loop-line.invariant c.loop-line-test.true (sym c.counts_left.ensures ∙ w.if-counts_left.true))
      | else-counts_left w ↦ subst P (sym (ap (λ v. v.items) w.means-is))
          (added_same (counts_left all) (λ x. x.to) (left_mean middles) lines i (length middles) no_line old c.loop-line.invariant c.loop-line-test.true (sym c.counts_left.ensures ∙ w.if-counts_left.false))
    ]

pub returns : goal.returns
returns c =
    let lines = c.args.lines.now in
    let all = c.args.all in
    let middles = c.args.middles.now in
    added_all (counts_left all) (λ x. x.to) (left_mean middles) lines c.loop-line.line-index (length middles) c.loop-line.means.items (omega (arith, c.loop-line-test.false)) c.loop-line.invariant
