-- What SQLite answers to a read, whatever tables the database has.
use Rattle.std.specs.Prelude.{◌≡◌, ℕ, List, [], Option, Ok, Vec}
use Rattle.std.specs.declared.alloc.Global.{Global}
use Rattle.std.specs.List.{AllByRecursion}
use Rattle.sqlite_resolve.specs.declared.compiled.Compiled.{Compiled}
use Rattle.sqlite.specs.Effect.{Database, Reads}
use Rattle.sqlite.specs.Listing.{understood, reads_listing, IsSourceOf}
use Rattle.sqlite.specs.Order.{Row}
use Rattle.ccr_tables.specs.Found.{Are}

-- SQLITE ANSWERS THESE ROWS to the text: it is a statement over the database's tables, whichever they are, and reads them
pub record Shows (text : List ℕ) (db : Database) (rows : List Row) : Type 0 where
  pub statement : Compiled
  pub is : understood db.schema text ≡ Ok statement
  pub source : Database
  pub read_from : IsSourceOf (reads_listing db.schema text) db source
  pub answer : Reads statement.command source [] rows

-- it answers some rows, and what is found of them is these; without an answer, one of them isn't of the kind
abbrev pub ShowsOfKind : (Row → Type 0) → List ℕ → Database → Option (Vec Row Global) → Type 0
ShowsOfKind Kind text db found = (rows : List Row) × Shows text db rows × Are Kind rows found

-- it answers some rows, and one of them isn't of the kind
abbrev pub ShowsOther : (Row → Type 0) → List ℕ → Database → Type 0
ShowsOther Kind text db = (rows : List Row) × Shows text db rows × ¬ AllByRecursion Kind rows
