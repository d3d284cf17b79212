use Rattle.std.proofs.Common.{take, All}
use Rattle.ccr_explain.specs.Demand.{Meets}
use Rattle.ccr_explain.proofs.meets.meet_each.Given as goal

abbrev pub invariant-loop-demand : goal.invariant-loop-demand
invariant-loop-demand l = All (Meets l.problem l.choice.places l.choice.builds) (take l.demand-index l.demands)
