use Rattle.std.proofs.Common.{[], ◌∷◌, ◌++◌, ap, ◌∙◌}
use Rattle.ccr_history.specs.declared.change.Edit.TheVariants.{Versions}
use Rattle.ccr_history.specs.Changes.{versions, edited}
use Rattle.ccr_history.specs.Edits.{change_data}
use Rattle.ccr_core.proofs.News.{reported_so}
use Rattle.ccr_core.proofs.reported.append.Goals as goal

pub returns-in-Ok-follow_report-clause-edits : goal.returns-in-Ok-follow_report-clause-edits
returns-in-Ok-follow_report-clause-edits c =
    let all = c.in-Ok.ensures.ok ∙ ap (λ l. edited (versions c.args.scope l) c.args.history.now) c.deref.ensures.value in
    ap change_data (c.push_reserved.ensures.items ∙ ap (λ l. l ++ Versions c.in-Ok.reported ∷ []) c.in_ok-change.ensures.items)
    ∙ ap (λ e. e ∷ []) (reported_so c.args.history.now c.report.new.self c.args.scope c.args.seen.items c.in-Ok.reported all c.in-Ok.ensures.edit c.in-Ok.ensures.numbered c.in-Ok.ensures.scope)
