use Rattle.std.proofs.Common.{[], ◌∷◌, sym, ap, ◌∙◌}
use Rattle.ccr_history.specs.Changes.{versions, edited}
use Rattle.ccr_core.specs.Edits.{news_in}
use Rattle.ccr_core.specs.Endings.{reports}
use Rattle.ccr_core.proofs.News.{reported_so}
use Rattle.ccr_core.proofs.pushed.append.Goals as goal

pub returns-in-Ok-clause-edits : goal.returns-in-Ok-clause-edits
returns-in-Ok-clause-edits c =
    let all = c.in-Ok.ensures.ok ∙ ap (λ l. edited (versions c.in-Some.report.scope l) c.args.history.now) c.deref.ensures.value in
    ap (λ e. e ∷ []) (reported_so c.args.history.now c.report.new.self c.in-Some.report.scope c.in-Some.report.versions.items c.in-Ok.reported all c.in-Ok.ensures.edit c.in-Ok.ensures.numbered c.in-Ok.ensures.scope)
    ∙ ap (λ o. news_in c.args.history.now (reports o)) (sym c.in-Some.is)
