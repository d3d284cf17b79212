use Rattle.std.proofs.Common.{◌+◌, ◌∙◌, ap, length, subst, sym}
use Rattle.ccr_history.specs.History.{AreNumbered}
use Rattle.ccr_serve.proofs.Ranks.{made_ranked, unmade_ranked}
use Rattle.ccr_serve.proofs.due.rank_at.Goals as goal

pub returns-in-Some : goal.returns-in-Some
returns-in-Some c =
    ap (λ n. n + 1) c.from.ensures
    ∙ sym (made_ranked c.args.job.now c.args.number c.args.core.now.history.builds
    (subst (λ h. AreNumbered h.builds) c.history-history.ensures c.rules.ensures.1.1) c.in-Some.position c.in-Some.ensures)

pub returns-in-None : goal.returns-in-None
returns-in-None c =
    ap (λ n. n + 1) (c.build_count.ensures.is ∙ ap (λ h. length h.builds) c.history-history.ensures)
    ∙ sym (unmade_ranked c.args.job.now c.args.number c.args.core.now.history.builds c.in-None.ensures)
