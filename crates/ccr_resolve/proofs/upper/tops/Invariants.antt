use Rattle.std.proofs.Common.{◌≡◌, ℕ, ◌<◌, length, slice_index}
use Rattle.ccr_choice.specs.Preference.{order_of}
use Rattle.ccr_choice.specs.Assignment.{nothing_fixed}
use Rattle.ccr_choice.specs.Possible.{IsBestPlace}
use Rattle.ccr_resolve.proofs.upper.tops.Given as goal

abbrev pub invariant-loop-i : goal.invariant-loop-i
invariant-loop-i l = (length l.upper ≡ 32) × ((k : ℕ) → k < l.i → IsBestPlace (order_of l.index.problem) l.index.problem nothing_fixed k (slice_index l.upper k))
