use Rattle.std.proofs.Common.{◌≡◌, ◌+◌, drop}
use Rattle.ccr_store.specs.Rows.{version_rows}
use Rattle.ccr_store.proofs.matching.are_bodies.Given as goal

abbrev pub invariant-loop-row : goal.invariant-loop-row
invariant-loop-row l = record {
  place : l.place ≡ l.row-index;
  left : drop l.row-index l.rows ≡ version_rows l.scope (l.row-index + 1) (drop l.row-index l.versions) → l.rows ≡ version_rows l.scope 1 l.versions;
}
