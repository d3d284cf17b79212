use Rattle.std.proofs.Common.{◌≡◌, ◌++◌, drop, string_bytes}
use Rattle.std.specs.List.{flat_map}
use Rattle.ccr_findings.specs.Breaks.{plain}
use Rattle.ccr_findings.proofs.broken.add_all.Given as goal

abbrev pub invariant-loop-byte : goal.invariant-loop-byte
invariant-loop-byte l = string_bytes l.line ++ flat_map plain (drop l.byte-index l.bytes) ≡ string_bytes l.initial.line ++ flat_map plain l.bytes
