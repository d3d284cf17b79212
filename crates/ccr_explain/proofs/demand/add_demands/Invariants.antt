use Rattle.std.proofs.Common.{◌≡◌, ◌++◌, map, take}
use Rattle.ccr_explain.specs.declared.demand.Demand.TheVariants.{Passed}
use Rattle.ccr_explain.proofs.demand.add_demands.Given as goal

abbrev pub invariant-loop-job : goal.invariant-loop-job
invariant-loop-job l = l.demands.items ≡ l.initial.demands.items ++ map (λ j. Passed l.number j) (take l.job-index l.input.jobs)
