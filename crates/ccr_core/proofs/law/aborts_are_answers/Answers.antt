use Rattle.ccr_core.proofs.Aborting.{abort_is_answer, abort_meets_no_build}
use Rattle.ccr_core.proofs.law.aborts_are_answers.Goals as goal

pub returns-clause-same : goal.returns-clause-same
returns-clause-same c = abort_is_answer

pub returns-clause-meets : goal.returns-clause-meets
returns-clause-meets c = abort_meets_no_build
