use Rattle.std.proofs.Common.{◌≡◌, ◌++◌}
use Rattle.std.specs.Vec.Iter.{into_iter_items}
use Rattle.ccr_findings.specs.Present.{faults_in}
use Rattle.ccr_findings.proofs.present.Present.append.Given as goal

abbrev pub invariant-loop-breach : goal.invariant-loop-breach
invariant-loop-breach l = faults_in l.self-inside.breaches.items ++ faults_in (into_iter_items l.breach-iterator) ≡ faults_in l.initial.self-inside.breaches.items ++ l.fn.others
