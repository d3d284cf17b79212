use Rattle.std.proofs.Common.{◌≡◌, ℕ, ◌<◌, slice_index_or}
use Rattle.ccr_choice.specs.Possible.{IsPossible}
use Rattle.ccr_choice.specs.Table.{assigned}
use Rattle.ccr_index.specs.Ranks.{ranked}
use Rattle.ccr_index.proofs.index.Index.best_in.Given as goal

abbrev pub invariant-loop-rank : goal.invariant-loop-rank
invariant-loop-rank l = (s : ℕ) → s < l.rank → (slice_index_or l.pairs (ranked l.ranks.above l.ranks.to s) (0, 0)).0 ≡ l.scope
    → IsPossible l.self.problem (assigned l.self.problem l.fixed) l.input (slice_index_or l.pairs (ranked l.ranks.above l.ranks.to s) (0, 0)).1 → ⊥
