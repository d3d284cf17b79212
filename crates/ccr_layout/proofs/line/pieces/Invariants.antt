use Rattle.std.proofs.Common.{◌≤◌, length}
use Rattle.ccr_layout.proofs.line.pieces.Given as goal

abbrev pub invariant-loop-node : goal.invariant-loop-node
invariant-loop-node l = length l.lines.items ≤ l.node
