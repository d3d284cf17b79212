-- What a statement does to the tables, and what a crash can leave of them.
use Rattle.std.specs.Prelude.{◌≡◌, ◌≢◌, true, [], List, Result, OnOk, IsTrue}
use Rattle.std.specs.List.{AllByRecursion}
use Rattle.sqlite.specs.Schema.{Schema}
use Rattle.sqlite.specs.declared.error.Error.{Error}
use Rattle.sqlite.specs.Tree.{Trees}
use Rattle.sqlite.specs.Effect.{Database, IsDatabase}
use Rattle.sqlite.specs.State.{State, KeepsCommit}
use Rattle.ccr_tables.specs.Contents.{Contents, Keeps, Holds, ListOurs, new_contents}
use Rattle.ccr_tables.specs.Written.{all_written}
use Rattle.ccr_tables.specs.declared.write.Write.{Write}

-- where the first database holds some contents, the second holds what the change makes of them
abbrev pub Turns : (Contents → Contents) → Database → Database → Type 0
Turns change old new = (these : Contents) → Holds these old → Holds (change these) new

-- a statement inside a transaction: nothing is committed; where it is made, the connection was open, and the
-- transaction goes on and sees the change, in a database whose list of objects is sound
pub record Alters {X : Type 0} (old new : State) (change : Contents → Contents) (result : Result X Error) : Type 0 where
  pub kept : KeepsCommit old new
  pub made : OnOk result ((new.in_transaction ≡ true) × Turns change old.now new.now)
  pub opened : OnOk result (IsTrue old.is_open)
  pub sound : OnOk result ((these : Contents) → Holds these old.now → IsDatabase new.now)

-- writes inside a transaction, one after the other: nothing is committed; where they are made, the transaction goes on
-- and sees them
pub record AltersAll {X : Type 0} (old new : State) (change : Contents → Contents) (result : Result X Error) : Type 0 where
  pub kept : KeepsCommit old new
  pub made : OnOk result ((new.in_transaction ≡ true) × Turns change old.now new.now)

-- the database has the tables of this schema and no rows
abbrev pub IsBare : Schema → Database → Type 0
IsBare schema db = (db.schema ≡ schema) × AllByRecursion (λ t. db.trees t.tree ≡ []) schema.tables

-- a statement inside a transaction that makes the next table
pub record Creates {X : Type 0} (before after : Schema) (old new : State) (result : Result X Error) : Type 0 where
  pub kept : KeepsCommit old new
  pub made : OnOk result ((new.in_transaction ≡ true) × (IsBare before old.now → IsBare after new.now))

-- statements inside a transaction that make the tables from this schema on, and write the row of the format: what they make is a
-- database whose list of objects is sound
pub record Founds {X : Type 0} (before : Schema) (old new : State) (result : Result X Error) : Type 0 where
  pub kept : KeepsCommit old new
  pub made : OnOk result ((new.in_transaction ≡ true) × (IsBare before old.now → Holds new_contents new.now))
  pub sound : OnOk result (IsBare before old.now → IsDatabase new.now)

-- the trees hold what the change makes of the contents that the database held
abbrev pub IsLeft : (Contents → Contents) → Database → Trees → Type 0
IsLeft change old trees = (these : Contents) → Holds these old → Keeps (change these) trees

-- what a crash can leave of these writes: all of them; and if there are any, of an open connection, and in trees that list
-- the six tables
pub record IsLeftBy (writes : List Write) (old : State) (trees : Trees) : Type 0 where
  pub opened : writes ≢ [] → IsTrue old.is_open
  pub made : IsLeft (all_written writes) old.now trees
  pub listed : writes ≢ [] → (these : Contents) → Holds these old.now → ListOurs trees
