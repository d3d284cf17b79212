use Rattle.std.proofs.Common.{◌≡◌, ◌++◌, drop, map}
use Rattle.ccr_problem.specs.Passed.{places_in}
use Rattle.ccr_problem.proofs.passed.push_places.Given as goal

abbrev pub invariant-loop-pair : goal.invariant-loop-pair
invariant-loop-pair l =
    l.cut.items ++ map (λ place. (l.number, place)) (places_in (drop l.pair-index l.pairs) l.scope)
    ≡ l.initial.cut.items ++ map (λ place. (l.number, place)) (places_in l.pairs l.scope)
