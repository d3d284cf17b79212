use Rattle.std.proofs.Common.{◌≡◌, ◌<◌, ℕ, length, slice_index}
use Rattle.ccr_resolve.proofs.wanted.all_below.Given as goal

abbrev pub invariant-loop-k : goal.invariant-loop-k
invariant-loop-k l = (length l.all.items ≡ l.k) × ((m : ℕ) → m < l.k → slice_index l.all.items m ≡ m)
