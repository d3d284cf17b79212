use Rattle.std.proofs.Common.{◌≡◌, IsTrue, Ok, take}
use Rattle.sqlite.specs.State.{HasCleanDisk, Survives}
use Rattle.sqlite.specs.Held.{state}
use Rattle.ccr_tables.specs.Schema.{meta_schema}
use Rattle.ccr_tables.specs.Step.{Creates}
use Rattle.ccr_tables.specs.Tables.{schema_of_all}
use Rattle.ccr_tables.proofs.creation.create_tables.Given as goal

abbrev pub invariant-loop-table : goal.invariant-loop-table
invariant-loop-table g l =
    let old = state g.S.Store l.fn.tx.conn.now in
    let now = state g.S.Store l.tx.conn.now in
    record {
      same_reference : l.tx.conn.ghost_name ≡ l.fn.tx.conn.ghost_name;
      survives : Survives old now (λ _. ⊥);
      steps : HasCleanDisk now → IsTrue old.in_transaction
          → Creates {X = Unit {0}} meta_schema (schema_of_all meta_schema (take l.table-index l.tables)) old now (Ok tt);
    }
