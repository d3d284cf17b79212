use Rattle.std.proofs.Common.{◌≡◌, ◌<◌, ◌≤◌, ℕ, [], length, map, get_or}
use Rattle.ccr_index.specs.Index.{IndexValue}
use Rattle.ccr_problem.specs.Passing.{with_news}
use Rattle.ccr_problem.proofs.news.add_all_news.Given as goal

abbrev pub invariant-loop-k : goal.invariant-loop-k
invariant-loop-k l = record {
  many : length l.indexes ≡ length l.initial.indexes;
  done : (k : ℕ) (d : IndexValue) → k < l.k → (get_or l.indexes k d).problem ≡ with_news (get_or l.initial.indexes k d).problem (get_or (map (λ x. map (λ y. y.items) x.items) l.news) k []);
  left : (k : ℕ) (d : IndexValue) → l.k ≤ k → get_or l.indexes k d ≡ get_or l.initial.indexes k d;
  pairs : (k : ℕ) (d : IndexValue) → (get_or l.indexes k d).spare_pairs ≡ (get_or l.initial.indexes k d).spare_pairs;
}
