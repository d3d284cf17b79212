use Rattle.std.proofs.Common.{◌≡◌, ◌+◌, drop}
use Rattle.ccr_store.specs.Rows.{table_rows}
use Rattle.ccr_store.proofs.matching.are_versions.Given as goal

abbrev pub invariant-loop-index : goal.invariant-loop-index
invariant-loop-index l = record {
  left : l.rest ≡ table_rows (l.index + 1) (drop l.index l.history.tables) → l.rows ≡ table_rows 1 l.history.tables;
  so_far : l.rows ≡ table_rows 1 l.history.tables → l.rest ≡ table_rows (l.index + 1) (drop l.index l.history.tables);
}
