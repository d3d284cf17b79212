-- What SQLite shows of a database, whatever tables it has.
use Rattle.std.specs.Prelude.{◌≡◌, ◌⊎◌, List, ◌∷◌, IfSome, map}
use Rattle.sqlite.specs.Effect.{Database}
use Rattle.sqlite.specs.Order.{Row}
use Rattle.sqlite.specs.State.{State, IsUnchanged}
use Rattle.ccr_history.specs.History.{HistoryData, IsHistory, no_history}
use Rattle.ccr_tables.specs.Contents.{Holds, new_contents}
use Rattle.ccr_tables.specs.Schema.{no_schema}
use Rattle.ccr_tables.specs.Tables.{listing_text}
use Rattle.ccr_tables.specs.declared.table.Table.TheVariants as table
use Rattle.ccr_tables.specs.Shown.{Shows}
use Rattle.ccr_store.specs.Listed.{ListsSeen, ListsBuilt, history_pairs, without_builds}
use Rattle.ccr_store.specs.Readable.{IsReadable}
use Rattle.ccr_store.specs.Rows.{Fits, format_row, meta_rows, scope_rows, table_rows, build_rows, pin_row}
use Rattle.ccr_store.specs.Texts.{HasTexts}
use Rattle.ccr_store.specs.declared.format.Format.{Format}
use Rattle.ccr_store.specs.declared.format.Format.TheVariants.{One, Two}

-- ---- the answers to the six reads
-- SQLite answers these rows to the reads of what was set and seen
pub record ShowsSeen (db : Database) (meta scopes versions : List Row) : Type 0 where
  pub set : Shows (listing_text table.Meta) db meta
  pub named : Shows (listing_text table.Scopes) db scopes
  pub reported : Shows (listing_text table.Versions) db versions

-- SQLite answers these rows to the reads of what was built and pinned
pub record ShowsBuilt (db : Database) (builds pairs pins : List Row) : Type 0 where
  pub made : Shows (listing_text table.Builds) db builds
  pub given : Shows (listing_text table.Pairs) db pairs
  pub held : Shows (listing_text table.Pins) db pins

-- SQLITE SHOWS THE HISTORY: it answers the rows of the history, those of each table in the order of its key
abbrev pub ShowsHistory : Format → HistoryData → Database → Type 0
ShowsHistory f h db =
    ShowsSeen db (meta_rows f h.text) (scope_rows 1 h.tables) (table_rows 1 h.tables)
    × ShowsBuilt db (build_rows 1 h.builds) (history_pairs h) (map pin_row h.pins)

-- ---- what no history has
-- a server can have the history in a format: it meets the rules, its texts are UTF-8, its pipeline can be read from its
-- text, and the format has room for it
pub record IsServable (f : Format) (h : HistoryData) : Type 0 where
  pub rules : IsHistory h
  pub texts : HasTexts h
  pub readable : IfSome h.text IsReadable
  pub fits : Fits f h

-- no history has what was set and seen
abbrev pub NoneHasSeen : Format → Database → Type 0
NoneHasSeen f db =
    (meta : List Row) × (scopes : List Row) × (versions : List Row) × ShowsSeen db meta scopes versions
    × ((h : HistoryData) → IsServable f h → ¬ ListsSeen f h meta scopes versions)

-- the history is what was set and seen of a server's: SQLite answers its rows, and each history that has them is it, but for
-- its builds and pins
abbrev pub IsSeenOf : Format → Database → HistoryData → Type 0
IsSeenOf f db history =
    (meta : List Row) × (scopes : List Row) × (versions : List Row) × ShowsSeen db meta scopes versions
    × ListsSeen f history meta scopes versions
    × ((h : HistoryData) → IsServable f h → ListsSeen f h meta scopes versions → history ≡ without_builds h)

-- no history has these builds
abbrev pub NoneHasBuilds : Format → Database → Type 0
NoneHasBuilds f db =
    (builds : List Row) × Shows (listing_text table.Builds) db builds
    × ((h : HistoryData) → IsServable f h → ¬ (builds ≡ build_rows 1 h.builds))

-- no history has these pairs
abbrev pub NoneHasPairs : Format → Database → Type 0
NoneHasPairs f db =
    (pairs : List Row) × Shows (listing_text table.Pairs) db pairs
    × ((h : HistoryData) → IsServable f h → ¬ (pairs ≡ history_pairs h))

-- no history that has what was set and seen has what was built and pinned
abbrev pub NoneHasAll : Format → Database → Type 0
NoneHasAll f db =
    (meta : List Row) × (scopes : List Row) × (versions : List Row) × ShowsSeen db meta scopes versions
    × (builds : List Row) × (pairs : List Row) × (pins : List Row) × ShowsBuilt db builds pairs pins
    × ((h : HistoryData) → IsServable f h → ListsSeen f h meta scopes versions → ¬ ListsBuilt h builds pairs pins)

-- SQLITE SHOWS NO HISTORY: there is none with the rows that it answers
abbrev pub ShowsNone : Format → Database → Type 0
ShowsNone f db = NoneHasSeen f db ⊎ (NoneHasBuilds f db ⊎ (NoneHasPairs f db ⊎ NoneHasAll f db))

-- ---- the format
-- the first of the rows is that of the format
abbrev pub BeginsWith : Format → List Row → Type 0
BeginsWith f rows = (more : List Row) × (rows ≡ format_row f ∷ more)

-- SQLITE SHOWS THE FORMAT: it answers rows of `meta` that begin with it
abbrev pub ShowsFormat : Format → Database → Type 0
ShowsFormat f db = (rows : List Row) × Shows (listing_text table.Meta) db rows × BeginsWith f rows

-- it answers rows that begin with no format's
abbrev pub ShowsNoFormat : Database → Type 0
ShowsNoFormat db = (rows : List Row) × Shows (listing_text table.Meta) db rows × ((f : Format) → ¬ BeginsWith f rows)

-- A DATABASE WITH TABLES IS TAKEN: it has the number of the second format, and nothing has changed; or it has that of the
-- first, and SQLite showed a history in it before it was written over
abbrev pub IsTaken : State → State → Type 0
IsTaken old new =
    (ShowsFormat Two old.now × IsUnchanged old new)
    ⊎ (ShowsFormat One old.now × (h : HistoryData) × IsHistory h × Fits One h × ShowsHistory One h old.now)

-- ---- of our hand
-- WHAT IS TAKEN, a database as it was and as it is then: nothing was made in it, and it has the six tables of a new one; or
-- it showed the number of the second format, and is as it was; or it showed that of the first, and a history in it
abbrev pub IsTakenAs : Database → Database → Type 0
IsTakenAs was now =
    ((was.schema ≡ no_schema) × Holds new_contents now)
    ⊎ ((ShowsFormat Two was × (now ≡ was))
    ⊎ (ShowsFormat One was × (h : HistoryData) × IsHistory h × Fits One h × ShowsHistory One h was))

-- A HISTORY IS OF OUR HAND in a database as it was before anything was written: nothing was made in it, and it is the empty
-- one; or SQLite showed it in the second format; or one that meets the rules in the first
abbrev pub IsOfOurs : Database → HistoryData → Type 0
IsOfOurs was h =
    ((was.schema ≡ no_schema) × (h ≡ no_history))
    ⊎ (ShowsHistory Two h was ⊎ ((k : HistoryData) × IsHistory k × Fits One k × ShowsHistory One k was))
