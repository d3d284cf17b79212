use Rattle.std.proofs.Common.{◌≡◌, ℕ, List, take, map}
use Rattle.ccr_store.specs.Rows.{moved_row}
use Rattle.ccr_store.proofs.reading.read_moved.Given as goal

abbrev pub invariant-loop-pair : goal.invariant-loop-pair
invariant-loop-pair l = (id : ℕ) (ps : List (ℕ × ℕ)) → l.pairs ≡ map (moved_row id) ps → l.moved.items ≡ take l.pair-index ps
