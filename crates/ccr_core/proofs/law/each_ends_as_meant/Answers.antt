use Rattle.ccr_core.proofs.Ending.{each_ends_as_meant, each_is_cut_short}
use Rattle.ccr_core.proofs.law.each_ends_as_meant.Goals as goal

pub returns-clause-meant : goal.returns-clause-meant
returns-clause-meant c = each_ends_as_meant

pub returns-clause-cut : goal.returns-clause-cut
returns-clause-cut c = each_is_cut_short
