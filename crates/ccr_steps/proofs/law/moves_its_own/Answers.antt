use Rattle.ccr_steps.proofs.Gaining.{moves_its_own}
use Rattle.ccr_steps.proofs.law.moves_its_own.Goals as goal

pub returns : goal.returns
returns c = λ plan t es o g means m there. moves_its_own plan t es o g means m there
