-- What SQLite answered to a read that failed.
use Rattle.std.specs.Prelude.{◌≡◌, []}
use Rattle.sqlite_trees.specs.declared.store.Store.{Ghosts}
use Rattle.sqlite.specs.declared.error.Error.{Error}
use Rattle.sqlite.specs.State.{State, Survives, FailsToQuery}
use Rattle.sqlite.specs.Held.{Held, state}
use Rattle.ccr_tables.specs.Tables.{listing_text}
use Rattle.ccr_tables.specs.declared.table.Table.{Table}

-- SQLITE ANSWERED THIS ERROR TO A READ of one of the tables as they were, before which nothing was written
pub record FailedToRead {S : Type 0} (g : Ghosts S) (old : State) (e : Error) : Type 0 where
  pub table : Table
  pub before : Held S
  pub after : Held S
  pub same : (state g before).now ≡ old.now
  pub kept : Survives old (state g before) (λ _. ⊥)
  pub answered : FailsToQuery (listing_text table) [] (state g before) (state g after) e
