use Rattle.std.proofs.Common.{ℕ, List, length, sym, ap, ◌∙◌, subst}
use Rattle.ccr_layout.specs.declared.mean.Mean.{Mean}
use Rattle.ccr_layout.specs.Means.{mean_in, AreAdded}
use Rattle.ccr_layout.specs.Wishes.{is_heard, hears, middle_mean}
use Rattle.ccr_layout.proofs.wish.near.Goals as goal

pub returns-clause-long : goal.returns-clause-long
returns-clause-long c =
    c.in_ok-found.ensures.long ∙ (ap length c.as_slice-means.ensures.value ∙ (c.in_ok-means.ensures.long ∙ (ap length c.as_slice-heard.ensures.value ∙ c.in_ok-heard.ensures.long)))

pub returns-clause-each : goal.returns-clause-each
returns-clause-each c =
    let wishes = c.args.wishes.now in
    let leaving = c.args.leaving.now in
    let middles = c.args.middles.now in
    let heard = c.as_slice-heard.result.now in
    let means = c.as_slice-means.result.now in
    let H : List Mean → Type 0 = λ ms. AreAdded (is_heard wishes) (λ x. x.to) (middle_mean middles) leaving (length middles) ms in
    let M : List Mean → Type 0 = λ ms. AreAdded (hears wishes) (λ x. x.from) (λ x. mean_in heard x.to) leaving (length heard) ms in
    let are : AreAdded (is_heard wishes) (λ x. x.to) (middle_mean middles) leaving (length middles) heard = subst H (sym c.as_slice-heard.ensures.value) c.in_ok-heard.ensures in
    let N : ℕ → Type 0 = λ n. AreAdded (hears wishes) (λ x. x.from) (λ x. mean_in heard x.to) leaving n means in
    (heard, means, c.in_ok-found.ensures.value, are, subst N are.long (subst M (sym c.as_slice-means.ensures.value) c.in_ok-means.ensures))
