use Rattle.ccr_history.proofs.Rowed.{row_only, row_none}
use Rattle.ccr_history.proofs.history.History.row_of.Goals as goal

pub returns-in-Some : goal.returns-in-Some
returns-in-Some c = row_only c.args.job.now c.args.number c.args.self.now.builds c.in-Some.position c.in-Some.ensures.only

pub returns-in-None : goal.returns-in-None
returns-in-None c = row_none c.args.job.now c.args.number c.args.self.now.builds c.in-None.ensures.none
