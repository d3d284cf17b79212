use Rattle.ccr_explain.proofs.DemandLaws.{fewer_met}
use Rattle.ccr_explain.proofs.law.fewer_demands_are_met_too.Goals as goal

pub returns : goal.returns
returns c = fewer_met
