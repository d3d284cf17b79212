use Rattle.ccr_choice.specs.Table.{assigned}
use Rattle.ccr_check.proofs.Walk.{none_best}
use Rattle.ccr_check.proofs.tree.has_no_place.Goals as goal

pub returns : goal.returns
returns c = none_best c.args.problem.now (assigned c.args.problem.now c.args.fixed.now) c.args.input c.best_possible.result c.is_none.result c.requires c.best_possible.ensures c.is_none.ensures
