use Rattle.std.proofs.Common.{◌≡◌, drop}
use Rattle.ccr_pipeline.specs.Schema.{rows}
use Rattle.ccr_findings.specs.Known.{like_in}
use Rattle.ccr_findings.proofs.known.like_in.Given as goal

abbrev pub invariant-loop-known : goal.invariant-loop-known
invariant-loop-known l = like_in (rows l.rows) l.key ≡ like_in (rows (drop l.known-index l.rows)) l.key
