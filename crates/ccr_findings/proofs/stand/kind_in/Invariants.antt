use Rattle.std.proofs.Common.{◌≡◌, drop}
use Rattle.ccr_pipeline.specs.Schema.{rows}
use Rattle.ccr_findings.specs.Stands.{kind_in}
use Rattle.ccr_findings.proofs.stand.kind_in.Given as goal

abbrev pub invariant-loop-kind : goal.invariant-loop-kind
invariant-loop-kind l = kind_in (rows l.rows) l.key ≡ kind_in (rows (drop l.kind-index l.rows)) l.key
