use Rattle.std.proofs.Common.{◌≡◌, drop, map, string_bytes}
use Rattle.ccr_pipeline.specs.Names.{has_name}
use Rattle.ccr_problem.proofs.numbering.has_name.Given as goal

abbrev pub invariant-loop-known : goal.invariant-loop-known
invariant-loop-known l = has_name (map string_bytes (drop l.known-index l.names)) l.name ≡ has_name (map string_bytes l.names) l.name
