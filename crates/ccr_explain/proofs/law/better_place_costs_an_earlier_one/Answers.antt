use Rattle.ccr_explain.proofs.WhyLaws.{better_costs}
use Rattle.ccr_explain.proofs.law.better_place_costs_an_earlier_one.Goals as goal

pub returns : goal.returns
returns c = better_costs
