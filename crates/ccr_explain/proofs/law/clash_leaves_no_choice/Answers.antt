use Rattle.ccr_explain.proofs.DemandLaws.{no_choice}
use Rattle.ccr_explain.proofs.law.clash_leaves_no_choice.Goals as goal

pub returns : goal.returns
returns c = no_choice
