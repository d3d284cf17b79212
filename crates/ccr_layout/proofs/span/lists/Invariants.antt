use Rattle.std.proofs.Common.{◌≡◌, ℕ, [], length}
use Rattle.ccr_layout.specs.Layers.{named_in}
use Rattle.ccr_layout.proofs.span.lists.Given as goal

abbrev pub invariant-loop-node : goal.invariant-loop-node
invariant-loop-node l = record { long : length l.lists.items ≡ l.node; empty : (t : ℕ) → named_in l.lists.items t ≡ [] }
