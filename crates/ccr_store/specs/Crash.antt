-- What a crash leaves.
use Rattle.std.specs.Prelude.{◌≢◌, ◌⊎◌, List, [], ◌∷◌, IsTrue}
use Rattle.sqlite.specs.Tree.{Trees}
use Rattle.sqlite.specs.State.{State, HasCleanDisk}
use Rattle.sqlite.specs.Held.{state}
use Rattle.sqlite_trees.specs.declared.store.Store.{Ghosts}
use Rattle.ccr_history.specs.History.{HistoryData}
use Rattle.ccr_history.specs.Edits.{change_data, Accepts}
use Rattle.ccr_history.specs.Changes.{changed}
use Rattle.ccr_history.specs.declared.change.Edit.{Edit}
use Rattle.ccr_tables.specs.Contents.{Keeps, ListOurs}
use Rattle.ccr_store.specs.Rows.{rows_of}
use Rattle.ccr_store.specs.StoreData.{StoreData, IsStored}
use Rattle.ccr_store.specs.Writes.{change_writes}

-- the trees of the six tables show the rows of one of these histories
abbrev pub HoldOneOf : List HistoryData → Trees → Type 0
HoldOneOf [] trees = ⊥
HoldOneOf (h ∷ hs) trees = Keeps (rows_of h) trees ⊎ HoldOneOf hs trees

-- A CRASH LEAVES ONE OF THESE HISTORIES: while the disk returns what was written, whatever an open after a crash at
-- this moment may find has the rows of one of them, and lists the six tables
abbrev pub Leaves : {S : Type 0} → Ghosts S → StoreData S → List HistoryData → Type 0
Leaves g store hs =
    let db = state g store.conn in
    HasCleanDisk db → (trees : Trees) → db.may_leave trees → HoldOneOf hs trees × ListOurs trees

-- What a crash during a commit can leave that it couldn't leave before: the changed history, where the tables held one
-- that takes the edits; and if these write anything, of an open connection alone, and in trees that list the six tables.
pub record IsChangedIn (es : List Edit) (old : State) (trees : Trees) : Type 0 where
  pub opened : change_writes es ≢ [] → IsTrue old.is_open
  pub made : (h : HistoryData) → IsStored h old.now → Accepts h es → Keeps (rows_of (changed (change_data es) h)) trees
  pub listed : change_writes es ≢ [] → (h : HistoryData) → IsStored h old.now → ListOurs trees
