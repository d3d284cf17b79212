use Rattle.std.proofs.Common.{◌≡◌, ◌*◌, ◌≤◌, length}
use Rattle.ccr_layout.specs.Lines.{line_count}
use Rattle.ccr_layout.proofs.line.all_pieces.Given as goal

abbrev pub invariant-loop-column : goal.invariant-loop-column
invariant-loop-column l = record {
  long : length l.lines.items ≡ l.column;
  few : line_count l.lines.items ≤ length l.spans * l.column;
}
