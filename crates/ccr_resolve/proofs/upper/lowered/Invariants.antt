use Rattle.std.proofs.Common.{◌≡◌, ℕ, ◌<◌, length, slice_index}
use Rattle.ccr_choice.specs.Problem.{BuildValue}
use Rattle.ccr_choice.specs.Preference.{order_of}
use Rattle.ccr_choice.specs.Assignment.{Assignment, with_build}
use Rattle.ccr_choice.specs.Possible.{IsBestPlace}
use Rattle.ccr_choice.specs.Table.{assigned}
use Rattle.ccr_resolve.specs.Search.{AreUpper}
use Rattle.ccr_resolve.proofs.upper.lowered.Given as goal

abbrev pub invariant-loop-i : goal.invariant-loop-i
invariant-loop-i l = (length l.inner ≡ 32) × ((a : Assignment) (b : BuildValue) → AreUpper l.index.problem a l.upper → assigned l.index.problem l.fixed ≡ with_build a l.job b
    → (k : ℕ) → k < l.i → IsBestPlace (order_of l.index.problem) l.index.problem (assigned l.index.problem l.fixed) k (slice_index l.inner k))
