use Rattle.std.proofs.Common.{ℕ, ◌<◌, slice_index}
use Rattle.ccr_choice.specs.Assignment.{nothing_fixed}
use Rattle.ccr_index.specs.Ranks.{ranked}
use Rattle.ccr_index.specs.Index.{HasPassed}
use Rattle.ccr_index.proofs.index.Index.top_after.Given as goal

abbrev pub invariant-loop-rank : goal.invariant-loop-rank
invariant-loop-rank l = (s : ℕ) → s < l.rank → HasPassed l.self.problem nothing_fixed l.input (slice_index l.places (ranked l.ranks.above l.ranks.to s)) → ⊥
