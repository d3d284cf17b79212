use Rattle.std.proofs.Common.{◌≡◌, ◌++◌, map, Some}
use Rattle.std.specs.Vec.Iter.{into_iter_items}
use Rattle.ccr_pipeline.specs.Faults.{fault_of}
use Rattle.ccr_findings.specs.Present.{faults_in}
use Rattle.ccr_findings.proofs.present.Present.into_faults.Given as goal

abbrev pub invariant-loop-rule : goal.invariant-loop-rule
invariant-loop-rule l = map fault_of l.faults.items ++ map Some (faults_in (into_iter_items l.rule-iterator)) ≡ map Some l.fn.self
