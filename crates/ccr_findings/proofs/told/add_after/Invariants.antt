use Rattle.std.proofs.Common.{◌≡◌, ◌++◌, map, drop, string_bytes}
use Rattle.serde_json.specs.View.{view}
use Rattle.ccr_pipeline.specs.Faults.{fault_of}
use Rattle.ccr_findings.specs.Told.{fault_line, told_after}
use Rattle.ccr_findings.proofs.told.add_after.Given as goal

abbrev pub invariant-loop-fault : goal.invariant-loop-fault
invariant-loop-fault l =
    map string_bytes l.lines.items ++ map (fault_line (view l.value)) (told_after (fault_of l.told) (map fault_of (drop l.fault-index l.faults)))
    ≡ map string_bytes l.initial.lines.items ++ map (fault_line (view l.value)) (told_after (fault_of l.first) (map fault_of l.faults))
