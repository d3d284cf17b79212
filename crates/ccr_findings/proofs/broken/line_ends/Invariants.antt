use Rattle.std.proofs.Common.{◌≡◌, ◌+◌, ◌≤◌, drop}
use Rattle.ccr_findings.specs.Breaks.{line_ends}
use Rattle.ccr_findings.proofs.broken.line_ends.Given as goal

abbrev pub invariant-loop-byte : goal.invariant-loop-byte
invariant-loop-byte l = record {
  count : l.ends + line_ends (drop l.byte-index l.bytes) ≡ line_ends l.bytes;
  few : l.ends ≤ l.byte-index;
}
