use Rattle.std.proofs.Common.{◌≡◌, ◌+◌, ◌*◌, ◌≤◌, length}
use Rattle.ccr_layout.specs.Lines.{line_count}
use Rattle.ccr_layout.proofs.line.lines_of.Given as goal

abbrev pub invariant-loop-edge : goal.invariant-loop-edge
invariant-loop-edge l = record {
  long : length l.lines.items ≡ l.columns;
  few : line_count l.lines.items ≤ length l.spans * l.columns + l.edge-index;
}
