use Rattle.ccr_resolve.proofs.DominatorLaws.{IsSearchedTo}
use Rattle.ccr_resolve.proofs.dominator.newest_dominator.Given as goal

abbrev pub invariant-loop-last : goal.invariant-loop-last
invariant-loop-last l = IsSearchedTo l.index.problem l.job l.build l.rarest l.last

abbrev pub decreases-loop-last : goal.decreases-loop-last
decreases-loop-last l = l.last
