use Rattle.std.proofs.Common.{◌≡◌, ◌+◌, ◌≤◌, drop}
use Rattle.ccr_findings.specs.Breaks.{letters_in}
use Rattle.ccr_findings.proofs.broken.letters_in.Given as goal

abbrev pub invariant-loop-byte : goal.invariant-loop-byte
invariant-loop-byte l = record {
  count : l.letters + letters_in (drop l.byte-index l.bytes) ≡ letters_in l.bytes;
  few : l.letters ≤ l.byte-index;
}
