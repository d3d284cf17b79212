use Rattle.ccr_core.proofs.MovingUsed.{each_step_moves_its_own, each_moves_its_own}
use Rattle.ccr_core.proofs.law.each_moves_its_own.Goals as goal

pub returns-clause-step : goal.returns-clause-step
returns-clause-step c = each_step_moves_its_own

pub returns-clause-moves : goal.returns-clause-moves
returns-clause-moves c = each_moves_its_own
