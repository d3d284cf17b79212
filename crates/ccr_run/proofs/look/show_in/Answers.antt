use Rattle.std.proofs.Common.{◌++◌}
use Rattle.sqlite.specs.Files.{over_files}
use Rattle.ccr_core.specs.Cores.{core_data}
use Rattle.ccr_run.specs.Looked.{ShownOf}
use Rattle.ccr_run.proofs.Looking.{did_look, saw_nothing}
use Rattle.ccr_run.proofs.look.show_in.Goals as goal

pub returns-in-Ok-clause-looked : goal.returns-in-Ok-clause-looked
returns-in-Ok-clause-looked g c =
    did_look over_files c.args.order.now.options (ShownOf c.args.order.now) _ (core_data c.in-Ok.core) c.show_of.result
    (c.args.out.now.shown ++ c.args.out.now.waiting) (c.show_of.new.out.shown ++ c.show_of.new.out.waiting)
    c.in-Ok.ensures.saw c.show_of.ensures.shown

pub returns-in-Err-clause-looked : goal.returns-in-Err-clause-looked
returns-in-Err-clause-looked g c =
    saw_nothing over_files c.args.order.now.options (ShownOf c.args.order.now) _ c.in-Err.failure
    (c.args.out.now.shown ++ c.args.out.now.waiting) c.in-Err.ensures.nothing
