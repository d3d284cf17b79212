use Rattle.std.proofs.Common.{◌≡◌, ◌+◌, map, drop}
use Rattle.ccr_problem.specs.Passing.{how_many}
use Rattle.ccr_problem.proofs.news.how_many.Given as goal

abbrev pub invariant-loop-places : goal.invariant-loop-places
invariant-loop-places l = l.count + how_many (map (λ y. y.items) (drop l.places-index l.news)) ≡ how_many (map (λ y. y.items) l.news)
