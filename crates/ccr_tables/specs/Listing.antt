-- What a SELECT of a whole table gives.
use Rattle.std.specs.Prelude.{ℕ, List, take, IsPermutation, IsSorted}
use Rattle.std.specs.declared.cmp.Ordering.{Ordering}
use Rattle.std.specs.Ordering.{on}
use Rattle.sqlite.specs.Order.{Row}
use Rattle.sqlite_value.specs.Order.{row_cmp}

-- by so many of the first columns, as SQLite compares them
abbrev pub columns_cmp : ℕ → Row → Row → Ordering
columns_cmp width = on (take width) row_cmp

-- the rows are these, in the order of so many of the first columns
pub record IsListed (width : ℕ) (these rows : List Row) : Type 0 where
  pub same : IsPermutation these rows
  pub ordered : IsSorted (columns_cmp width) rows
