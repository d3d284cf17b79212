use Rattle.ccr_choice.specs.Preference.{order_of}
use Rattle.ccr_choice.specs.Table.{assigned}
use Rattle.ccr_index.proofs.BestLaws.{best_free}
use Rattle.ccr_index.proofs.index.Index.greatest_at.Goals as goal

pub returns-in-Some : goal.returns-in-Some
returns-in-Some c = (c.best_in.result, c.best_in.ensures, c.unwrap_or.ensures)

pub returns-in-None : goal.returns-in-None
returns-in-None c = best_free c.args.self.now.problem (assigned c.args.self.now.problem c.args.fixed.now) c.args.input c.in-None.ensures.none (order_of c.args.self.now.problem) c.top.result c.top.ensures
