use Rattle.std.proofs.Common.{◌≡◌, ℕ, ◌<◌, ◌≤◌, slice_index_or}
use Rattle.ccr_choice.specs.Possible.{IsPossible}
use Rattle.ccr_choice.specs.Table.{assigned}
use Rattle.ccr_choice.proofs.possible.best_above.Given as goal

abbrev pub invariant-loop-k : goal.invariant-loop-k
invariant-loop-k l = (place m : ℕ) → l.from ≤ m → m < l.k → slice_index_or l.pairs m (0, 0) ≡ (l.scope, place)
    → IsPossible l.problem (assigned l.problem l.fixed) l.input place → ⊥
