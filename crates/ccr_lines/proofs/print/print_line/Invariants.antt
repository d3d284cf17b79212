use Rattle.std.proofs.Common.{◌≡◌, ◌≤◌, ◌+◌, ◌++◌, length, take, flat_map}
use Rattle.std.specs.List.{sum_by}
use Rattle.ccr_lines.proofs.print.print_line.Given as goal

abbrev pub invariant-loop-part : goal.invariant-loop-part
invariant-loop-part g l = record {
  told : g.O.Lines.written l.out ≡ g.O.Lines.written l.fn.out ++ flat_map (λ part. part.now) (take l.part-index l.parts);
  notes : g.O.Lines.notes l.out ≡ g.O.Lines.notes l.fn.out;
  left : g.O.Lines.room l.fn.out ≤ g.O.Lines.room l.out + sum_by (λ part. length part.now) (take l.part-index l.parts);
}
