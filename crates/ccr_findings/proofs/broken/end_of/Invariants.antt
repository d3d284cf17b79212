use Rattle.std.proofs.Common.{◌≤◌}
use Rattle.ccr_findings.proofs.broken.end_of.Given as goal

abbrev pub invariant-loop-i : goal.invariant-loop-i
invariant-loop-i l = l.end ≤ l.i
