use Rattle.std.proofs.Common.{◌≡◌, drop}
use Rattle.ccr_pipeline.specs.Schema.{rows, has_row}
use Rattle.ccr_pipeline.proofs.schema.has_row.Given as goal

abbrev pub invariant-loop-known : goal.invariant-loop-known
invariant-loop-known l = has_row (rows l.rows) l.key ≡ has_row (rows (drop l.known-index l.rows)) l.key
