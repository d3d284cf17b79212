use Rattle.std.proofs.Common.{◌≡◌, ◌++◌, drop, map, string_bytes, codes}
use Rattle.std.specs.List.{flat_map}
use Rattle.ccr_findings.proofs.gate.add_passed.Given as goal

abbrev pub invariant-loop-job : goal.invariant-loop-job
invariant-loop-job l = string_bytes l.words ++ flat_map (λ other. codes ", passed " ++ other) (map string_bytes (drop l.job-index l.jobs)) ≡ string_bytes l.initial.words ++ flat_map (λ other. codes ", passed " ++ other) (map string_bytes l.jobs)
