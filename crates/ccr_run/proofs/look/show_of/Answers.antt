use Rattle.std.proofs.Common.{rules, ap, ◌≡◌, ◌∙◌, [], ◌++◌}
use Rattle.ccr_history.specs.Text.{Text}
use Rattle.ccr_core.specs.Cores.{core_data}
use Rattle.ccr_run.proofs.Looking.{shown_of, unshown_of}
use Rattle.ccr_run.proofs.look.show_of.Goals as goal

pub returns-in-Ok-clause-shown : goal.returns-in-Ok-clause-shown
returns-in-Ok-clause-shown g c =
    let none : c.new-lines.result.items ≡ [] = search rules in
    let same : c.deref.result.now ≡ c.show-end.new.out.items = search rules in
    shown_of c.args.order.now (core_data c.args.core.now) c.show-end.result c.handed_on.result c.new-lines.result.items c.show-end.new.out.items
    (c.args.out.now.shown ++ c.args.out.now.waiting) (c.print.new.out.shown ++ c.print.new.out.waiting) c.handed_on.ensures none
    c.show-end.ensures.shows
    (c.in-Ok.ensures.shown ∙ ap (λ (t : Text). (c.args.out.now.shown ++ c.args.out.now.waiting) ++ t) same)

pub returns-clause-shown : goal.returns-clause-shown
returns-clause-shown g c =
    unshown_of c.args.order.now (core_data c.args.core.now) c.handed_on-in-Err.result (c.args.out.now.shown ++ c.args.out.now.waiting)
    (c.print.new.out.shown ++ c.print.new.out.waiting) c.handed_on-in-Err.ensures c.in-Err.ensures.refused
