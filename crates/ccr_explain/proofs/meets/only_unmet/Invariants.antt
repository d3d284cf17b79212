use Rattle.ccr_explain.specs.Demand.{Meets}
use Rattle.ccr_explain.proofs.Reducing.{IsUnmet}
use Rattle.ccr_explain.proofs.meets.only_unmet.Given as goal

abbrev pub invariant-loop-m : goal.invariant-loop-m
invariant-loop-m l = IsUnmet (Meets l.problem l.choice.places l.choice.builds) l.demands l.m l.unmet
