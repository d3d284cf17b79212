use Rattle.ccr_resolve.specs.Search.{FoundSatisfies, free_jobs}
use Rattle.ccr_resolve.proofs.dive.+dive.Given as goal

abbrev pub decreases-dive : goal.decreases-dive
decreases-dive l = free_jobs l.fixed.now

abbrev pub invariant-loop-step : goal.invariant-loop-step
invariant-loop-step l = FoundSatisfies l.index.problem l.best
