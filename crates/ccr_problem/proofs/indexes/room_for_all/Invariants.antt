use Rattle.std.proofs.Common.{◌≡◌, ◌<◌, ℕ, None, length, get_or}
use Rattle.ccr_index.specs.Index.{IndexValue}
use Rattle.ccr_problem.specs.Indexes.{FitsIn}
use Rattle.ccr_problem.proofs.indexes.room_for_all.Given as goal

abbrev pub invariant-loop-k : goal.invariant-loop-k
invariant-loop-k l = record {
  many : length l.indexes ≡ length l.initial.indexes;
  problems : (k : ℕ) (d : IndexValue) → (get_or l.indexes k d).problem ≡ (get_or l.initial.indexes k d).problem;
  room : (k : ℕ) (d : IndexValue) → k < l.k → FitsIn (get_or l.brought k None) (get_or l.indexes k d);
}
