use Rattle.std.proofs.Common.{◌≤◌, length}
use Rattle.ccr_layout.proofs.sweep.wishing.Given as goal

abbrev pub invariant-loop-node : goal.invariant-loop-node
invariant-loop-node l = length l.wishing.items ≤ l.node-index
