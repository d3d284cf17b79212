use Rattle.std.proofs.Common.{◌≡◌, drop, map, string_bytes}
use Rattle.ccr_pipeline.specs.Names.{with_names}
use Rattle.ccr_findings.proofs.absent.Artifacts.leave.Given as goal

abbrev pub invariant-loop-output : goal.invariant-loop-output
invariant-loop-output l = record {
  names : with_names l.self.names (map string_bytes (drop l.output-index l.output-items)) ≡ with_names l.initial.self.names (map string_bytes l.output-items);
  whatever : l.self.whatever ≡ l.initial.self.whatever;
}
