use Rattle.std.proofs.Common.{◌≡◌, ℕ, length, take, IsTrue, slice_index_or, false}
use Rattle.ccr_explain.specs.Cut.{AreMarked}
use Rattle.ccr_explain.proofs.narrow.mark_pairs.Given as goal

abbrev pub invariant-loop-pair : goal.invariant-loop-pair
invariant-loop-pair l = record {
  long : length l.marks ≡ length l.initial.marks;
  kept : (n : ℕ) → IsTrue (slice_index_or l.initial.marks n false) → IsTrue (slice_index_or l.marks n false);
  marked : AreMarked l.scope l.marks (take l.pair-index l.pairs);
}
