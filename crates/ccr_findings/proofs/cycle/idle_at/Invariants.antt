use Rattle.std.proofs.Common.{◌≡◌, drop, map}
use Rattle.ccr_findings.specs.Cycles.{waiter_data}
use Rattle.ccr_findings.specs.Waits.{idle_from}
use Rattle.ccr_findings.proofs.cycle.idle_at.Given as goal

abbrev pub invariant-loop-i : goal.invariant-loop-i
invariant-loop-i l =
    idle_from (map waiter_data l.waiters) l.i (map waiter_data (drop l.i l.waiters)) ≡ idle_from (map waiter_data l.waiters) 0 (map waiter_data l.waiters)
