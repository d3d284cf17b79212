use Rattle.std.proofs.Common.{◌≡◌, length, take, All}
use Rattle.ccr_explain.specs.Cut.{build_in, AreMarked}
use Rattle.ccr_explain.proofs.narrow.marks_of.Given as goal

abbrev pub invariant-loop-k : goal.invariant-loop-k
invariant-loop-k l = record {
  long : length l.marks.items ≡ l.count;
  marked : All (λ k. AreMarked l.scope l.marks.items (build_in l.rows.builds k).pairs) (take l.k-index l.builds);
}
