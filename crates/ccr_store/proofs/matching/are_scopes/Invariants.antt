use Rattle.std.proofs.Common.{◌≡◌, ◌+◌, drop}
use Rattle.ccr_store.specs.Rows.{scope_rows}
use Rattle.ccr_store.proofs.matching.are_scopes.Given as goal

abbrev pub invariant-loop-row : goal.invariant-loop-row
invariant-loop-row l = record {
  id : l.id ≡ l.row-index;
  left : drop l.row-index l.rows ≡ scope_rows (l.row-index + 1) (drop l.row-index l.history.tables) → l.rows ≡ scope_rows 1 l.history.tables;
}
