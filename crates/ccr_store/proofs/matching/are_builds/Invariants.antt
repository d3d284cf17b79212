use Rattle.std.proofs.Common.{◌≡◌, ◌+◌, drop}
use Rattle.ccr_store.specs.Rows.{build_rows}
use Rattle.ccr_store.proofs.matching.are_builds.Given as goal

abbrev pub invariant-loop-row : goal.invariant-loop-row
invariant-loop-row l = record {
  id : l.id ≡ l.row-index;
  left : drop l.row-index l.rows ≡ build_rows (l.row-index + 1) (drop l.row-index l.history.builds) → l.rows ≡ build_rows 1 l.history.builds;
}
