use Rattle.std.proofs.Common.{◌≡◌, ◌+◌, drop, map, string_bytes}
use Rattle.ccr_problem.specs.Numbering.{number_of}
use Rattle.ccr_problem.proofs.numbering.number_of.Given as goal

abbrev pub invariant-loop-known : goal.invariant-loop-known
invariant-loop-known l = record {
  counted : l.number ≡ l.known-index;
  left : l.number + number_of (map string_bytes (drop l.known-index l.names)) l.name ≡ number_of (map string_bytes l.names) l.name;
}
