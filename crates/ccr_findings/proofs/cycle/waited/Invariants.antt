use Rattle.std.proofs.Common.{◌≡◌, drop, map}
use Rattle.ccr_findings.specs.Cycles.{waiter_data}
use Rattle.ccr_findings.specs.Waits.{waited}
use Rattle.ccr_findings.proofs.cycle.waited.Given as goal

abbrev pub invariant-loop-waiter : goal.invariant-loop-waiter
invariant-loop-waiter l = waited (map waiter_data (drop l.waiter-index l.waiters)) l.names ≡ waited (map waiter_data l.waiters) l.names
