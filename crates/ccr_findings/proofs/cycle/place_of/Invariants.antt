use Rattle.std.proofs.Common.{◌≡◌, drop, map, string_bytes}
use Rattle.ccr_findings.specs.Waits.{place_from}
use Rattle.ccr_findings.proofs.cycle.place_of.Given as goal

abbrev pub invariant-loop-i : goal.invariant-loop-i
invariant-loop-i l = place_from l.i l.name (map string_bytes (drop l.i l.names)) ≡ place_from 0 l.name (map string_bytes l.names)
