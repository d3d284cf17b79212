use Rattle.ccr_resolve.proofs.WantedLaws.{ArePairsWalked}
use Rattle.ccr_resolve.proofs.wanted.add_builds_with_any.Given as goal

abbrev pub invariant-loop-k : goal.invariant-loop-k
invariant-loop-k l = ArePairsWalked l.rows.builds l.scope l.pairs l.most l.k l.builds.items
