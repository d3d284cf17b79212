use Rattle.std.proofs.Common.{◌≡◌, ◌≤◌, map, take, drop}
use Rattle.ccr_problem.specs.Passing.{how_many, with_news}
use Rattle.ccr_problem.proofs.news.add_news.Given as goal

abbrev pub invariant-loop-i : goal.invariant-loop-i
invariant-loop-i l = record {
  so_far : l.index.problem ≡ with_news l.initial.index.problem (take l.i (map (λ y. y.items) l.news));
  room : how_many (drop l.i (map (λ y. y.items) l.news)) ≤ l.index.spare_places;
  pairs : l.index.spare_pairs ≡ l.initial.index.spare_pairs;
}
