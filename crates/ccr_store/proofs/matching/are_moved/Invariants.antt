use Rattle.std.proofs.Common.{◌≡◌, drop, map}
use Rattle.ccr_store.specs.Rows.{moved_row}
use Rattle.ccr_store.proofs.matching.are_moved.Given as goal

abbrev pub invariant-loop-index : goal.invariant-loop-index
invariant-loop-index l = drop l.index l.rows ≡ map (moved_row l.id) (drop l.index l.moved) → l.rows ≡ map (moved_row l.id) l.moved
