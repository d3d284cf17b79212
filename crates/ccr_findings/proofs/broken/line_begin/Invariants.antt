use Rattle.std.proofs.Common.{◌≡◌, ◌≤◌, drop}
use Rattle.ccr_findings.specs.Breaks.{line_begin}
use Rattle.ccr_findings.proofs.broken.line_begin.Given as goal

abbrev pub invariant-loop-i : goal.invariant-loop-i
invariant-loop-i l = record {
  begin : line_begin l.begin l.i (drop l.i l.bytes) ≡ line_begin 0 0 l.bytes;
  within : l.begin ≤ l.i;
}
