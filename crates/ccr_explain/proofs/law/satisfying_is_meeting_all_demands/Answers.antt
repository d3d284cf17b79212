use Rattle.ccr_explain.proofs.DemandLaws.{meets_from, satisfies_from}
use Rattle.ccr_explain.proofs.law.satisfying_is_meeting_all_demands.Goals as goal

pub returns : goal.returns
returns c = λ p rules places builds. (meets_from p places builds, satisfies_from p rules places builds)
