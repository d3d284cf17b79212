use Rattle.ccr_choice.specs.Table.{assigned}
use Rattle.ccr_choice.proofs.Places.{top_best, free_possible}
use Rattle.ccr_choice.proofs.possible.best_allowed.Goals as goal

pub returns : goal.returns
returns c =
    let p = c.args.problem.now in
    let a = assigned p c.args.fixed.now in
    top_best p a c.args.input c.top_allowed.result c.top_allowed.ensures (free_possible p a c.args.input c.top_allowed.result c.requires.free c.top_allowed.ensures)
