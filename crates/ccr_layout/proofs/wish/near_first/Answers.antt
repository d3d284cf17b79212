use Rattle.std.proofs.Common.{List, length, sym, ap, ◌∙◌, subst}
use Rattle.ccr_layout.specs.declared.mean.Mean.{Mean}
use Rattle.ccr_layout.specs.Lines.{ends_at_box}
use Rattle.ccr_layout.specs.Means.{AreAdded}
use Rattle.ccr_layout.specs.Wishes.{job_mean}
use Rattle.ccr_layout.proofs.wish.near_first.Goals as goal

pub returns-clause-long : goal.returns-clause-long
returns-clause-long c = c.in_ok-found.ensures.long ∙ (ap length c.as_slice-means.ensures.value ∙ c.in_ok-means.ensures.long)

pub returns-clause-each : goal.returns-clause-each
returns-clause-each c =
    let M : List Mean → Type 0 = λ ms. AreAdded ends_at_box (λ x. x.from) job_mean c.args.leaving.now c.args.nodes ms in
    (c.as_slice-means.result.now, c.in_ok-found.ensures.value, subst M (sym c.as_slice-means.ensures.value) c.in_ok-means.ensures)
