use Rattle.std.proofs.Common.{◌≡◌, ◌≤◌, ℕ, length, slice_index}
use Rattle.ccr_layout.proofs.place.pulled.Given as goal

abbrev pub invariant-loop-node : goal.invariant-loop-node
invariant-loop-node l = record {
  long : length l.pulled.items ≡ length l.tops;
  down : (k : ℕ) → slice_index l.tops k ≤ slice_index l.pulled.items k;
}
