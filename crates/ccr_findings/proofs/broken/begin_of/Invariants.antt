use Rattle.std.proofs.Common.{◌≤◌}
use Rattle.ccr_findings.proofs.broken.begin_of.Given as goal

abbrev pub invariant-loop-i : goal.invariant-loop-i
invariant-loop-i l = l.begin ≤ l.i
