use Rattle.ccr_look.proofs.Runs.{one_list}
use Rattle.ccr_look.proofs.law.runs_are_one_list.Goals as goal

pub returns : goal.returns
returns c = λ image h held rs end runs. one_list rs image end h held runs
