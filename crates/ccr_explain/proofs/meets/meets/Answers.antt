use Rattle.ccr_explain.proofs.DemandLaws.{allowed_met, passed_met}
use Rattle.ccr_explain.proofs.meets.meets.Goals as goal

pub returns-in-Allowed : goal.returns-in-Allowed
returns-in-Allowed c =
    let p = c.args.problem.now in
    λ h. allowed_met p c.args.choice.now.places c.args.choice.now.builds c.in-Allowed.i c.args.demand.now c.in-Allowed.is (c.is_allowed.ensures h)

pub returns-in-Passed : goal.returns-in-Passed
returns-in-Passed c =
    let p = c.args.problem.now in
    λ h. passed_met p c.args.choice.now.places c.args.choice.now.builds c.in-Passed.i c.in-Passed.j c.args.demand.now c.in-Passed.is (c.has_passed.ensures h)
