use Rattle.std.proofs.Common.{◌-◌, length, map, string_bytes}
use denote.Text.{Utf8}
use denote.Shadow.{shadow}
use Rattle.ccr_findings.specs.Cycles.{waiter_data}
use Rattle.ccr_findings.proofs.Rings.{Walks}
use Rattle.ccr_findings.proofs.cycle.line_of.Given as goal

-- what holds along the path to the name
abbrev pub invariant-loop-from : goal.invariant-loop-from
invariant-loop-from l = record {
  text : shadow (Utf8 l.name);
  walks : Walks (map waiter_data l.waiters) l.name (map string_bytes l.path.items);
}

abbrev pub decreases-loop-from : goal.decreases-loop-from
decreases-loop-from l = length l.waiters - length l.path.items
