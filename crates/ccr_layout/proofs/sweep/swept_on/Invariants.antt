use Rattle.ccr_layout.specs.Standing.{AreColumns}
use Rattle.ccr_layout.proofs.sweep.swept_on.Given as goal

abbrev pub invariant-loop-column : goal.invariant-loop-column
invariant-loop-column l = AreColumns l.spans l.column l.swept.items
