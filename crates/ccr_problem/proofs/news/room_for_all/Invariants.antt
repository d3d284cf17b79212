use Rattle.std.proofs.Common.{◌≡◌, ◌<◌, ◌≤◌, ℕ, [], length, map, get_or}
use Rattle.ccr_index.specs.Index.{IndexValue}
use Rattle.ccr_problem.specs.Passing.{how_many}
use Rattle.ccr_problem.proofs.news.room_for_all.Given as goal

abbrev pub invariant-loop-k : goal.invariant-loop-k
invariant-loop-k l = record {
  many : length l.indexes ≡ length l.initial.indexes;
  problems : (k : ℕ) (d : IndexValue) → (get_or l.indexes k d).problem ≡ (get_or l.initial.indexes k d).problem;
  pairs : (k : ℕ) (d : IndexValue) → (get_or l.indexes k d).spare_pairs ≡ (get_or l.initial.indexes k d).spare_pairs;
  room : (k : ℕ) (d : IndexValue) → k < l.k → how_many (get_or (map (λ x. map (λ y. y.items) x.items) l.news) k []) ≤ (get_or l.indexes k d).spare_places;
}
