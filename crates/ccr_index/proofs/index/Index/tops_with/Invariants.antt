use Rattle.std.proofs.Common.{◌≡◌, ℕ, ◌<◌, length, slice_index}
use Rattle.ccr_index.specs.Index.{IsTopWith}
use Rattle.ccr_index.proofs.index.Index.tops_with.Given as goal

abbrev pub invariant-loop-i : goal.invariant-loop-i
invariant-loop-i l = (length l.tops ≡ 32) × ((number k : ℕ) → k < l.i → IsTopWith l.self.problem l.job number l.pairs k (slice_index l.tops k))
