use Rattle.std.proofs.Common.{◌≡◌, ℕ, ◌<◌, slice_index_or}
use Rattle.ccr_index.specs.Ranks.{ranked}
use Rattle.ccr_index.specs.Index.{IsPossibleWith}
use Rattle.ccr_index.proofs.index.Index.top_with.Given as goal

abbrev pub invariant-loop-rank : goal.invariant-loop-rank
invariant-loop-rank l = (s : ℕ) → s < l.rank → (slice_index_or l.pairs (ranked l.ranks.above l.ranks.to s) (0, 0)).0 ≡ l.scope
    → IsPossibleWith l.self.problem l.job l.input (slice_index_or l.pairs (ranked l.ranks.above l.ranks.to s) (0, 0)).1 → ⊥
