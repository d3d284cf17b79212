use Rattle.ccr_index.proofs.ScopeLaws.{AreSeen}
use Rattle.ccr_index.proofs.build.scopes_of.Given as goal

abbrev pub invariant-loop-i : goal.invariant-loop-i
invariant-loop-i l = AreSeen l.problem l.job l.i l.scopes
