use Rattle.std.proofs.Common.{◌≢◌, ◌∙◌, ap, sym, subst, List, ℕ, AllPairs}
use Rattle.ccr_history.specs.Builds.{by_place}
use Rattle.ccr_history.proofs.Sorting.{sorted-by_place}
use Rattle.ccr_problem.proofs.coming.sorted.Goals as goal

pub returns : goal.returns
returns c =
    let copy = c.in_ok-sorted.ensures.items in
    let apart = subst (λ (l : List (ℕ × ℕ)). AllPairs (λ p q. p ≢ q) l) (sym copy) c.requires in
    sorted-by_place c.in_ok-sorted.sorted.items c.sort_unstable.new.self.items apart c.sort_unstable.ensures.permutation c.sort_unstable.ensures.sorted ∙ ap by_place copy
