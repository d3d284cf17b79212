use Rattle.std.proofs.Common.{◌≡◌, drop}
use Rattle.ccr_pipeline.specs.Schema.{rows}
use Rattle.ccr_findings.specs.Stands.{absent_in}
use Rattle.ccr_findings.proofs.stand.absent_in.Given as goal

abbrev pub invariant-loop-kind : goal.invariant-loop-kind
invariant-loop-kind l = absent_in l.path l.here (rows l.rows) ≡ absent_in l.path l.here (rows (drop l.kind-index l.rows))
