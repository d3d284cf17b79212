use Rattle.ccr_core.proofs.Changing.{each_change_is_one}
use Rattle.ccr_core.proofs.Sound.{each_change_is_taken}
use Rattle.ccr_core.proofs.law.each_change_is_taken.Goals as goal

pub returns-clause-taken : goal.returns-clause-taken
returns-clause-taken c = λ s after es rs start up run. each_change_is_taken s after es rs start up run

pub returns-clause-one : goal.returns-clause-one
returns-clause-one c = each_change_is_one c.answers_decide.ensures
