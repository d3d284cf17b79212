-- Rows in the order of their tables' keys.
use Rattle.std.specs.Prelude.{◌≡◌, ℕ, ◌+◌, [], List, ◌∷◌, ◌++◌, map}
use Rattle.std.specs.List.{AllByRecursion}
use Rattle.sqlite.specs.Order.{Row}
use Rattle.ccr_history.specs.Builds.{BuildData}
use Rattle.ccr_history.specs.History.{HistoryData, no_history}
use Rattle.ccr_tables.specs.Contents.{Contents}
use Rattle.ccr_store.specs.declared.format.Format.{Format}
use Rattle.ccr_tables.specs.Listing.{IsListed}
use Rattle.ccr_store.specs.Rows.{meta_rows, scope_rows, table_rows, build_rows, used_row, moved_row, disabled_rows, pin_row}

-- ---- what the six SELECTs show
-- the rows of what was set and seen, in the order of their keys
pub record AreSeen (these : Contents) (meta scopes versions : List Row) : Type 0 where
  pub set : IsListed 1 these.meta meta
  pub named : IsListed 1 these.scopes scopes
  pub reported : IsListed 2 these.versions versions

-- the rows of what was built and pinned, in the order of their keys
pub record AreBuilt (these : Contents) (builds pairs pins : List Row) : Type 0 where
  pub made : IsListed 1 these.builds builds
  pub given : IsListed 4 these.pairs pairs
  pub held : IsListed 1 these.pins pins

-- one of the rows, in the order of so many of their first columns, isn't of the kind that a history's are
abbrev pub HasOther : (Row → Type 0) → ℕ → List Row → Type 0
HasOther Kind width these = (rows : List Row) × IsListed width these rows × ¬ AllByRecursion Kind rows

-- ---- what a history's rows are in that order
-- the pairs of builds with ids from this one up: moved ones first, since the empty input comes before each other
abbrev pub listed_pairs : ℕ → List BuildData → List Row
listed_pairs id [] = []
listed_pairs id (b ∷ bs) = (map (moved_row id) b.moved ++ map (used_row id) b.used) ++ listed_pairs (id + 1) bs

-- the pairs of a history: its disabled places first, since they are of build 0
abbrev pub history_pairs : HistoryData → List Row
history_pairs h = disabled_rows h.disabled ++ listed_pairs 1 h.builds

-- the rows are those of a history's text, in a format, and of its tables
pub record ListsSeen (f : Format) (h : HistoryData) (meta scopes versions : List Row) : Type 0 where
  pub set : meta ≡ meta_rows f h.text
  pub named : scopes ≡ scope_rows 1 h.tables
  pub reported : versions ≡ table_rows 1 h.tables

-- the rows are those of a history's builds, disabled places and pins
pub record ListsBuilt (h : HistoryData) (builds pairs pins : List Row) : Type 0 where
  pub made : builds ≡ build_rows 1 h.builds
  pub given : pairs ≡ history_pairs h
  pub held : pins ≡ map pin_row h.pins

-- ---- a history in two parts
-- a history without its builds, disabled places and pins
abbrev pub without_builds : HistoryData → HistoryData
without_builds h = record no_history { tables = h.tables; text = h.text }

-- the tables and the text are what they were
abbrev pub KeepsSeen : HistoryData → HistoryData → Type 0
KeepsSeen old new = (new.tables ≡ old.tables) × (new.text ≡ old.text)
