use Rattle.std.proofs.Common.{◌≡◌, ℕ, ◌<◌, slice_index}
use Rattle.ccr_choice.specs.Preference.{order_of}
use Rattle.ccr_choice.proofs.BestPlaces.{best_places}
use Rattle.ccr_choice.specs.Table.{assigned}
use Rattle.ccr_choice.proofs.possible.is_bounded.Given as goal

abbrev pub invariant-loop-i : goal.invariant-loop-i
invariant-loop-i l = (k : ℕ) → k < l.i → slice_index (best_places (order_of l.problem) l.problem (assigned l.problem l.fixed)) k ≡ slice_index l.bound k
