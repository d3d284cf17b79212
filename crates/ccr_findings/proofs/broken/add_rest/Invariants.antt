use Rattle.std.proofs.Common.{◌≡◌, ◌++◌, drop, string_bytes}
use Rattle.ccr_findings.specs.Breaks.{line_rest}
use Rattle.ccr_findings.proofs.broken.add_rest.Given as goal

abbrev pub invariant-loop-byte : goal.invariant-loop-byte
invariant-loop-byte l = string_bytes l.line ++ line_rest (drop l.byte-index l.bytes) ≡ string_bytes l.initial.line ++ line_rest l.bytes
