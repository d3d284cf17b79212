use Rattle.std.proofs.Common.{◌≡◌, Some, map, remove}
use Rattle.ccr_findings.specs.Cycles.{waiter_data}
use Rattle.ccr_findings.specs.Waits.{idle_in}
use Rattle.ccr_findings.proofs.Rings.{keeps_by}
use Rattle.ccr_findings.proofs.cycle.trim.Goals as goal

pub loop-i-preserved : goal.loop-i-preserved
loop-i-preserved c =
    let found : idle_in (map waiter_data c.loop-i.waiters.items) ≡ Some c.in-Some.i = cc in
    let left : c.remove-waiter.new.self.items ≡ remove c.loop-i.waiters.items c.in-Some.i = cc in
    keeps_by waiter_data (map waiter_data c.args.waiters.now.items) c.loop-i.waiters.items c.remove-waiter.new.self.items c.in-Some.i left c.loop-i.invariant found
