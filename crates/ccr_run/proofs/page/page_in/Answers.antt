use Rattle.std.proofs.Common.{◌++◌, option_map}
use Rattle.sqlite.specs.Files.{over_files}
use Rattle.ccr_core.specs.Cores.{core_data}
use Rattle.ccr_run.specs.Paged.{PagedOf, overview_options}
use Rattle.ccr_run.proofs.Looking.{did_look, saw_nothing}
use Rattle.ccr_run.proofs.page.page_in.Goals as goal

pub returns-in-Ok-clause-looked : goal.returns-in-Ok-clause-looked
returns-in-Ok-clause-looked g c =
    did_look over_files c.args.order.now.options
    (PagedOf (overview_options c.args.order.now (option_map (λ t. t.now) c.args.clock))) _ (core_data c.in-Ok.core) c.print_page.result
    (c.args.out.now.shown ++ c.args.out.now.waiting) (c.print_page.new.out.shown ++ c.print_page.new.out.waiting)
    c.in-Ok.ensures.saw c.print_page.ensures.paged

pub returns-in-Err-clause-looked : goal.returns-in-Err-clause-looked
returns-in-Err-clause-looked g c =
    saw_nothing over_files c.args.order.now.options
    (PagedOf (overview_options c.args.order.now (option_map (λ t. t.now) c.args.clock))) _ c.in-Err.failure
    (c.args.out.now.shown ++ c.args.out.now.waiting) c.in-Err.ensures.nothing
