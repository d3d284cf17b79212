use Rattle.ccr_serve.proofs.GoingRound.{turns_go_round}
use Rattle.ccr_serve.proofs.law.turns_go_round.Goals as goal

pub returns : goal.returns
returns c = turns_go_round
