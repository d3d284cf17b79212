use Rattle.std.proofs.Common.{rules, ◌≡◌, ◌∙◌, ap, ◌++◌, option_map}
use Rattle.ccr_history.specs.Text.{Text}
use Rattle.ccr_core.specs.Cores.{core_data}
use Rattle.ccr_run.specs.Paged.{overview_options}
use Rattle.ccr_run.proofs.Paging.{printed_of}
use Rattle.ccr_run.proofs.page.print_page.Goals as goal

pub returns-clause-paged : goal.returns-clause-paged
returns-clause-paged g c =
    let same : c.deref.result.now ≡ c.in_ok-bytes.bytes.items = search rules in
    printed_of (overview_options c.args.order.now (option_map (λ t. t.now) c.args.clock)) (core_data c.args.core.now)
    c.in_ok-bytes.bytes.items (c.args.out.now.shown ++ c.args.out.now.waiting) (c.print.new.out.shown ++ c.print.new.out.waiting)
    c.in_ok-bytes.ensures
    (c.in_ok-print.ensures.shown ∙ ap (λ (t : Text). (c.args.out.now.shown ++ c.args.out.now.waiting) ++ t) same)
