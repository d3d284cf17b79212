use Rattle.std.proofs.Common.{◌≡◌, drop, map}
use Rattle.ccr_overview.specs.Holds.{has_urgency, hold_data}
use Rattle.ccr_overview.proofs.hold.has_urgency.Given as goal

abbrev pub invariant-loop-hold : goal.invariant-loop-hold
invariant-loop-hold l =
    has_urgency l.urgency (map hold_data (drop l.hold-index l.holds)) ≡ has_urgency l.urgency (map hold_data l.holds)
