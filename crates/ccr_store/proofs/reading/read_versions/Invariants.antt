use Rattle.std.proofs.Common.{◌≡◌, ℕ, List, take}
use Rattle.std.specs.List.{AllByRecursion}
use Rattle.ccr_history.specs.TextMap.{TextMap}
use Rattle.ccr_store.specs.Rows.{version_rows}
use Rattle.ccr_store.specs.Texts.{IsSpelled}
use Rattle.ccr_store.proofs.reading.read_versions.Given as goal

abbrev pub invariant-loop-row : goal.invariant-loop-row
invariant-loop-row l = (scope : ℕ) (vs : List TextMap) → l.rows ≡ version_rows scope 1 vs → AllByRecursion IsSpelled vs → l.versions.items ≡ take l.row-index vs
