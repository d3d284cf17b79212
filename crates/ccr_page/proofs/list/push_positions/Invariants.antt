use Rattle.std.proofs.Common.{◌≡◌, ◌++◌, drop}
use Rattle.ccr_page.specs.Lists.{positions}
use Rattle.ccr_page.proofs.list.push_positions.Given as goal

abbrev pub invariant-loop-position : goal.invariant-loop-position
invariant-loop-position l =
    l.found.items ++ positions l.urgency l.position (drop l.position l.jobs) ≡ l.fn.found.items ++ positions l.urgency 0 l.jobs
