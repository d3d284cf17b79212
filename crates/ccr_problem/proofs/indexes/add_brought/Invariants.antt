use Rattle.std.proofs.Common.{◌≡◌, ◌<◌, ◌≤◌, ℕ, None, length, get_or}
use Rattle.ccr_index.specs.Index.{IndexValue}
use Rattle.ccr_problem.specs.Follows.{with_passed}
use Rattle.ccr_problem.proofs.indexes.add_brought.Given as goal

abbrev pub invariant-loop-k : goal.invariant-loop-k
invariant-loop-k l = record {
  many : length l.indexes ≡ length l.initial.indexes;
  done : (k : ℕ) (d : IndexValue) → k < l.k → (get_or l.indexes k d).problem ≡ with_passed (get_or l.initial.indexes k d).problem (get_or l.brought k None);
  left : (k : ℕ) (d : IndexValue) → l.k ≤ k → get_or l.indexes k d ≡ get_or l.initial.indexes k d;
}
