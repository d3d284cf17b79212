use Rattle.std.proofs.Common.{arith}
use Rattle.ccr_choice.specs.Preference.{order_of}
use Rattle.ccr_choice.specs.Table.{assigned}
use Rattle.ccr_choice.proofs.Places.{best_reached}
use Rattle.ccr_choice.proofs.possible.best_among.Goals as goal

pub returns : goal.returns
returns c =
    best_reached (order_of c.args.problem.now) c.args.problem.now (assigned c.args.problem.now c.args.fixed.now) c.args.input c.loop-build.best c.loop-build.invariant.possible
    (λ place h. let one = c.requires.sources place h in c.loop-build.invariant.reached place one.0 one.1 (omega (arith, one.2)) one.3 one.4 h)
