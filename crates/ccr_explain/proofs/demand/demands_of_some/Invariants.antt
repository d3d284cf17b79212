use Rattle.std.proofs.Common.{List, All}
use Rattle.ccr_choice.specs.Problem.{BuildValue}
use Rattle.ccr_explain.specs.Demand.{IsDemandOf}
use Rattle.ccr_explain.proofs.demand.demands_of_some.Given as goal

abbrev pub invariant-loop-i : goal.invariant-loop-i
invariant-loop-i l = (jobs : List (List BuildValue)) → All (IsDemandOf (record { inputs = l.inputs; jobs = jobs })) l.demands.items
