use Rattle.std.proofs.Common.{ℕ, ◌<◌, slice_index}
use Rattle.ccr_choice.specs.Preference.{order_of}
use Rattle.ccr_choice.specs.Possible.{IsBestPlace}
use Rattle.ccr_choice.specs.Table.{assigned}
use Rattle.ccr_resolve.proofs.newest.are_kept.Given as goal

abbrev pub invariant-loop-i : goal.invariant-loop-i
invariant-loop-i l = (k : ℕ) → k < l.i → IsBestPlace (order_of l.index.problem) l.index.problem (assigned l.index.problem l.fixed) k (slice_index l.upper k)
