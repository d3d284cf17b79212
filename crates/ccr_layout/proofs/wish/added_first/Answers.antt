use Rattle.std.proofs.Common.{◌+◌, List, get_or, set, take, sym, ap, ◌∙◌, subst, arith}
use Rattle.ccr_layout.specs.declared.mean.Mean.{Mean}
use Rattle.ccr_layout.specs.Lines.{ends_at_box}
use Rattle.ccr_layout.specs.Wishes.{job_mean}
use Rattle.ccr_layout.specs.Means.{joined, mean_in, AreAdded}
use Rattle.ccr_layout.proofs.MeanLaws.{no_line, added_same, added_more, added_all}
use Rattle.ccr_layout.proofs.wish.added_first.Goals as goal
use Rattle.ccr_layout.proofs.wish.added_first.Goals.{then-ends, else-ends}

pub loop-line-preserved : goal.loop-line-preserved
loop-line-preserved c =
    let leaving = c.args.leaving.now in
    let nodes = c.args.nodes in
    let i = c.loop-line.line-index in
    let old = c.loop-line.means.items in
    let x = get_or leaving i no_line in
    let P : List Mean → Type 0 = λ ms. AreAdded (ends_at_box) (λ x. x.from) (job_mean) (take (i + 1) leaving) (nodes) ms in
    elim c.if-ends.branch [
      | then-ends w ↦ subst P (sym (ap (λ v. v.items) w.means-is ∙ w.add_at.ensures.value ∙ ap (λ m. set old x.from (joined (mean_in old x.from) m)) w.job_height.ensures))
          (added_more (ends_at_box) (λ x. x.from) (job_mean) leaving i (nodes) no_line old c.loop-line.invariant c.loop-line-test.true (sym c.ends.ensures ∙ w.if-ends.true))
      | else-ends w ↦ subst P (sym (ap (λ v. v.items) w.means-is))
          (added_same (ends_at_box) (λ x. x.from) (job_mean) leaving i (nodes) no_line old c.loop-line.invariant c.loop-line-test.true (sym c.ends.ensures ∙ w.if-ends.false))
    ]

pub returns : goal.returns
returns c =
    let leaving = c.args.leaving.now in
    let nodes = c.args.nodes in
    added_all (ends_at_box) (λ x. x.from) (job_mean) leaving c.loop-line.line-index (nodes) c.loop-line.means.items (omega (arith, c.loop-line-test.false)) c.loop-line.invariant
