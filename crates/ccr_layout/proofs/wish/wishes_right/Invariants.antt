use Rattle.std.proofs.Common.{◌≡◌, ℕ, ◌<◌, length}
use Rattle.ccr_layout.specs.Wishes.{wish_in, right_wish}
use Rattle.ccr_layout.proofs.wish.wishes_right.Given as goal

abbrev pub invariant-loop-node : goal.invariant-loop-node
invariant-loop-node l = record {
  long : length l.wishes.items ≡ l.node;
  each : (k : ℕ) → k < l.node → wish_in l.wishes.items k ≡ right_wish l.arriving l.leaving l.tops l.heights k;
}
