use Rattle.std.proofs.Common.{◌≡◌, ◌++◌, drop, map, string_bytes, codes}
use Rattle.std.specs.List.{flat_map}
use Rattle.ccr_findings.proofs.cycle.add_others.Given as goal

abbrev pub invariant-loop-other : goal.invariant-loop-other
invariant-loop-other l = string_bytes l.line ++ flat_map (λ other. codes ", " ++ other) (map string_bytes (drop l.other-index l.others)) ≡ string_bytes l.initial.line ++ flat_map (λ other. codes ", " ++ other) (map string_bytes l.others)
