-- What is found of a table whose rows are to be of one kind.
use Rattle.std.specs.Prelude.{◌≡◌, ℕ, List, Option, Some, None, Vec}
use Rattle.std.specs.declared.alloc.Global.{Global}
use Rattle.std.specs.List.{AllByRecursion}
use Rattle.sqlite.specs.Order.{Row}
use Rattle.ccr_tables.specs.Listing.{IsListed}

-- the rows are these; without an answer, one of them isn't of the kind
abbrev pub Are : (Row → Type 0) → List Row → Option (Vec Row Global) → Type 0
Are Kind rows (Some items) = items.items ≡ rows
Are Kind rows None = ¬ AllByRecursion Kind rows

-- what is found is the rows in the order of so many of their first columns; without an answer, one of them isn't of the kind
abbrev pub AreFound : (Row → Type 0) → ℕ → List Row → Option (Vec Row Global) → Type 0
AreFound Kind width these found = (rows : List Row) × IsListed width these rows × Are Kind rows found
