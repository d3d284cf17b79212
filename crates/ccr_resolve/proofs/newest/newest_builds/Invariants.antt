use Rattle.std.proofs.Common.{◌≡◌, ◌≢◌, ℕ, ◌<◌, length, slice_index}
use Rattle.ccr_resolve.specs.Search.{FixesKnown}
use Rattle.ccr_resolve.proofs.newest.newest_builds.Given as goal

abbrev pub invariant-loop-j : goal.invariant-loop-j
invariant-loop-j l = (length l.fixed ≡ 32) × FixesKnown l.index.problem l.fixed × ((k : ℕ) → k < l.j → slice_index l.fixed k ≡ 1) × ((k : ℕ) → slice_index l.fixed k ≢ 0 → slice_index l.fixed k ≡ 1)
