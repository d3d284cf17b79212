use Rattle.std.proofs.Common.{◌≡◌, sym, ap, subst}
use Rattle.ccr_choice.specs.Problem.{ProblemValue, IsProblem}
use Rattle.ccr_choice.specs.Preference.{order_of}
use Rattle.ccr_resolve.specs.Chosen.{IsChosen}
use Rattle.ccr_resolve.specs.declared.chosen.Chosen.{Chosen}
use Rattle.ccr_resolve.proofs.ClaimFits.{short_claim}
use Rattle.ccr_play.proofs.calls.answer_choose.Goals as goal

pub claimed-requires : goal.claimed-requires
claimed-requires c =
    let p = c.in_ok-index.index.problem in
    let same : p ≡ c.in-Ok.problem = ap (λ x. x.problem) c.in_ok-index.ensures in
    let rules : IsProblem p = subst IsProblem (sym same) c.in-Ok.ensures.kept in
    let P : Chosen → Type 0 = λ o. IsChosen (order_of p) p c.args.budget o in
    short_claim p rules c.in-Best.choice (subst P c.in-Best.is c.in_ok-choice.ensures).satisfies
