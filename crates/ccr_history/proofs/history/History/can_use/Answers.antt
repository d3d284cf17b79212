use Rattle.ccr_history.proofs.Deciding.{used_test_decides}
use Rattle.ccr_history.proofs.history.History.can_use.Goals as goal

pub returns : goal.returns
returns c = used_test_decides c.args.self.now.tables c.args.used.now c.are_used.result c.are_used.ensures
