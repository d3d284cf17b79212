use Rattle.std.proofs.Common.{◌≡◌, ◌≢◌, ◌≤◌, ◌++◌, List, length, pos}
use Rattle.std.specs.List.{AllByRecursion}
use Rattle.sqlite.specs.declared.types.Value.TheVariants.{Int}
use Rattle.sqlite.specs.Order.{Row, column}
use Rattle.ccr_store.proofs.reading.id_count.Given as goal

abbrev pub invariant-loop-row : goal.invariant-loop-row
invariant-loop-row l = record {
  count : l.count ≡ l.row-index;
  front : (here more : List Row) → l.rows ≡ here ++ more → AllByRecursion (λ r. column r 0 ≡ Int (pos l.id)) here → AllByRecursion (λ r. column r 0 ≢ Int (pos l.id)) more → l.row-index ≤ length here;
}
