use Rattle.ccr_steps.proofs.Standing.{ask_alike}
use Rattle.ccr_steps.proofs.law.beginnings_decide.Goals as goal

pub returns : goal.returns
returns c = ask_alike
