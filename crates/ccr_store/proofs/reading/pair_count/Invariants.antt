use Rattle.std.proofs.Common.{◌≡◌, ◌≢◌, ◌≤◌, ◌++◌, List, length, pos}
use Rattle.std.specs.List.{AllByRecursion}
use Rattle.sqlite.specs.declared.types.Value.TheVariants.{Int}
use Rattle.sqlite.specs.Order.{Row, column}
use Rattle.ccr_store.proofs.reading.pair_count.Given as goal

abbrev pub invariant-loop-pair : goal.invariant-loop-pair
invariant-loop-pair l = record {
  count : l.count ≡ l.pair-index;
  front : (here more : List Row) → l.pairs ≡ here ++ more → AllByRecursion (λ r. column r 0 ≡ Int (pos l.build)) here → AllByRecursion (λ r. column r 0 ≢ Int (pos l.build)) more → l.pair-index ≤ length here;
}
