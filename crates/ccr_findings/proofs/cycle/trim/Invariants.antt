use Rattle.std.proofs.Common.{length, map}
use Rattle.ccr_findings.specs.Cycles.{waiter_data}
use Rattle.ccr_findings.specs.Waits.{HaveSameCycles}
use Rattle.ccr_findings.proofs.cycle.trim.Given as goal

abbrev pub invariant-loop-i : goal.invariant-loop-i
invariant-loop-i l = HaveSameCycles (map waiter_data l.initial.waiters.items) (map waiter_data l.waiters.items)

abbrev pub decreases-loop-i : goal.decreases-loop-i
decreases-loop-i l = length l.waiters.items
