use Rattle.std.proofs.Common.{◌≡◌, drop}
use Rattle.ccr_findings.specs.Breaks.{first_of}
use Rattle.ccr_findings.proofs.broken.first_of.Given as goal

abbrev pub invariant-loop-byte : goal.invariant-loop-byte
invariant-loop-byte l = first_of (drop l.byte-index l.text) ≡ first_of l.text
