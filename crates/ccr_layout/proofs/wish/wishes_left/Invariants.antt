use Rattle.std.proofs.Common.{◌≡◌, ℕ, ◌<◌, length}
use Rattle.ccr_layout.specs.Wishes.{wish_in, left_wish}
use Rattle.ccr_layout.proofs.wish.wishes_left.Given as goal

abbrev pub invariant-loop-node : goal.invariant-loop-node
invariant-loop-node l = record {
  long : length l.wishes.items ≡ l.node;
  each : (k : ℕ) → k < l.node → wish_in l.wishes.items k ≡ left_wish l.middles l.lines k;
}
