use Rattle.std.proofs.Common.{◌≡◌, ◌+◌, List, [], take, drop}
use Rattle.std.specs.List.{AllByRecursion}
use Rattle.ccr_history.specs.Tables.{TableData}
use Rattle.ccr_history.specs.History.{AreTables}
use Rattle.ccr_store.specs.Rows.{scope_rows, table_rows}
use Rattle.ccr_store.specs.Texts.{IsTextTable}
use Rattle.ccr_store.proofs.reading.add_tables.Given as goal

abbrev pub invariant-loop-row : goal.invariant-loop-row
invariant-loop-row l = (ts : List TableData) → AreTables ts → AllByRecursion IsTextTable ts → l.fn.history.tables ≡ [] → l.scopes ≡ scope_rows 1 ts → l.bodies ≡ table_rows 1 ts → (l.history ≡ record l.fn.history { tables = take l.row-index ts }) × (l.rest ≡ table_rows (l.row-index + 1) (drop l.row-index ts))
