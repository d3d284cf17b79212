use Rattle.ccr_history.proofs.Deciding.{moved_test_decides}
use Rattle.ccr_history.proofs.history.History.can_move.Goals as goal

pub returns : goal.returns
returns c = moved_test_decides c.args.self.now.tables c.args.moved.now c.are_moved.result c.are_moved.ensures
