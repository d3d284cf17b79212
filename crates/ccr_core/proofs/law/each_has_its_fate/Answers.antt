use Rattle.ccr_core.proofs.Telling.{each_has_its_fate, ended_stay}
use Rattle.ccr_core.proofs.law.each_has_its_fate.Goals as goal

pub returns-clause-fate : goal.returns-clause-fate
returns-clause-fate c = each_has_its_fate

pub returns-clause-stays : goal.returns-clause-stays
returns-clause-stays c = ended_stay
