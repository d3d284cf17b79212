-- What the database's files hold.
use Rattle.std.specs.Prelude.{◌≡◌, ◌⊎◌}
use Rattle.sqlite_wal.specs.Recovery.{Image}
use Rattle.sqlite.specs.Tree.{Trees}
use Rattle.sqlite.specs.Files.{HoldsDatabase, IsEmpty, IsNothing}
use Rattle.ccr_history.specs.History.{HistoryData, IsHistory, no_history}
use Rattle.ccr_tables.specs.Contents.{Keeps, ListOurs}
use Rattle.ccr_store.specs.Rows.{Fits, rows_in}
use Rattle.ccr_store.specs.declared.format.Format.{Format}

-- the files hold a database: its list of objects tells the six tables and nothing else, and they have the history's rows in
-- one of the formats
pub record HasTables (image : Image) (h : HistoryData) : Type 0 where
  pub format : Format
  pub trees : Trees
  pub found : HoldsDatabase image trees
  pub listed : ListOurs trees
  pub rules : IsHistory h
  pub fits : Fits format h
  pub rows : Keeps (rows_in format h) trees

-- nothing was made in the files: the database's file is empty, or wasn't there, or is what an open left of a first page; or
-- they hold a database without anything
abbrev pub HoldNothing : Image → Type 0
HoldNothing image = IsNothing image ⊎ ((trees : Trees) × HoldsDatabase image trees × IsEmpty trees)

-- THE FILES HOLD A HISTORY: the empty one where nothing was made in them, and else the one whose rows the six tables have
abbrev pub HoldsHistory : Image → HistoryData → Type 0
HoldsHistory image h = (HoldNothing image × (h ≡ no_history)) ⊎ HasTables image h

-- the files hold the history of a server
abbrev pub AreOurs : Image → Type 0
AreOurs image = (h : HistoryData) × HoldsHistory image h
