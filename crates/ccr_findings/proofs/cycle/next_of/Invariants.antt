use Rattle.std.proofs.Common.{◌≡◌, drop, map}
use Rattle.ccr_findings.specs.Cycles.{waiter_data}
use Rattle.ccr_findings.specs.Waits.{next_in}
use Rattle.ccr_findings.proofs.cycle.next_of.Given as goal

abbrev pub invariant-loop-waiter : goal.invariant-loop-waiter
invariant-loop-waiter l =
    next_in (map waiter_data l.waiters) (map waiter_data (drop l.waiter-index l.waiters)) l.name ≡ next_in (map waiter_data l.waiters) (map waiter_data l.waiters) l.name
