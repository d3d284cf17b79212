use Rattle.std.proofs.Common.{◌≡◌, drop, map}
use Rattle.ccr_store.specs.Rows.{used_row}
use Rattle.ccr_store.proofs.matching.are_used.Given as goal

abbrev pub invariant-loop-index : goal.invariant-loop-index
invariant-loop-index l = drop l.index l.rows ≡ map (used_row l.id) (drop l.index l.build.used) → l.rows ≡ map (used_row l.id) l.build.used
