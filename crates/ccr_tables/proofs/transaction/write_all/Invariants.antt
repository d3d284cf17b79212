use Rattle.std.proofs.Common.{◌≡◌, ◌≢◌, [], IsTrue, take, Ok}
use Rattle.sqlite.specs.State.{HasCleanDisk, Survives}
use Rattle.sqlite.specs.Held.{state}
use Rattle.sqlite.specs.Effect.{IsDatabase}
use Rattle.ccr_tables.specs.Contents.{Contents, Holds}
use Rattle.ccr_tables.specs.Step.{AltersAll}
use Rattle.ccr_tables.specs.Written.{all_written}
use Rattle.ccr_tables.proofs.transaction.write_all.Given as goal

abbrev pub invariant-loop-write : goal.invariant-loop-write
invariant-loop-write g l =
    let old = state g.S.Store l.fn.tx.conn.now in
    let now = state g.S.Store l.tx.conn.now in
    record {
      same_reference : l.tx.conn.ghost_name ≡ l.fn.tx.conn.ghost_name;
      survives : Survives old now (λ _. ⊥);
      steps : HasCleanDisk now → IsTrue old.in_transaction → AltersAll {X = Unit {0}} old now (all_written (take l.write-index l.writes)) (Ok tt);
      sound : HasCleanDisk now → IsTrue old.in_transaction → take l.write-index l.writes ≢ [] → (these : Contents) → Holds these old.now → IsDatabase now.now;
      opened : HasCleanDisk now → IsTrue old.in_transaction → take l.write-index l.writes ≢ [] → IsTrue old.is_open;
    }
