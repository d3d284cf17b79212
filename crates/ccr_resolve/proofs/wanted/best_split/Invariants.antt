use Rattle.std.proofs.Common.{◌≡◌, ◌<◌, ℕ, slice_index}
use Rattle.ccr_resolve.proofs.wanted.best_split.Given as goal

abbrev pub invariant-loop-i : goal.invariant-loop-i
invariant-loop-i l = (y : ℕ) → y < l.i → slice_index l.upper y ≡ slice_index l.best.places y
