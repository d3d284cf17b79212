use Rattle.ccr_core.proofs.Ending.{ends_agree}
use Rattle.ccr_core.proofs.Owning.{runs_agree, none_runs_on}
use Rattle.ccr_core.proofs.law.runs_agree.Goals as goal

pub returns-clause-running : goal.returns-clause-running
returns-clause-running c = runs_agree c.beginnings_decide.ensures

pub returns-clause-ended : goal.returns-clause-ended
returns-clause-ended c = ends_agree c.answers_decide.ensures

pub returns-clause-apart : goal.returns-clause-apart
returns-clause-apart c = none_runs_on c.beginnings_decide.ensures
