use Rattle.std.proofs.Common.{◌≡◌, ◌≢◌, ◌≤◌, ◌++◌, List, [], length}
use Rattle.std.specs.List.{AllByRecursion}
use Rattle.sqlite.specs.declared.types.Value.TheVariants.{Text}
use Rattle.sqlite.specs.Order.{Row, column}
use Rattle.ccr_store.proofs.reading.moved_count.Given as goal

abbrev pub invariant-loop-pair : goal.invariant-loop-pair
invariant-loop-pair l = record {
  count : l.count ≡ l.pair-index;
  front : (here more : List Row) → l.pairs ≡ here ++ more → AllByRecursion (λ r. column r 1 ≡ Text []) here → AllByRecursion (λ r. column r 1 ≢ Text []) more → l.pair-index ≤ length here;
}
