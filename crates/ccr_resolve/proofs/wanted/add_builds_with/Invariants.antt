use Rattle.ccr_resolve.proofs.WantedLaws.{IsWalked}
use Rattle.ccr_resolve.proofs.wanted.add_builds_with.Given as goal

abbrev pub invariant-loop-last : goal.invariant-loop-last
invariant-loop-last l = IsWalked l.rows.builds (l.scope, l.place) l.last l.builds.items l.initial.builds.items l.most

abbrev pub decreases-loop-last : goal.decreases-loop-last
decreases-loop-last l = l.last
