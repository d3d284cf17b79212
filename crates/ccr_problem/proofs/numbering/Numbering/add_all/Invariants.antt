use Rattle.std.proofs.Common.{◌≡◌, drop, map, string_bytes}
use Rattle.ccr_pipeline.specs.Names.{with_names}
use Rattle.ccr_problem.proofs.numbering.Numbering.add_all.Given as goal

abbrev pub invariant-loop-name : goal.invariant-loop-name
invariant-loop-name l = with_names l.self (map string_bytes (drop l.name-index l.names)) ≡ with_names l.initial.self (map string_bytes l.names)
