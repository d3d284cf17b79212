use Rattle.std.proofs.Common.{◌≡◌, ◌≤◌, ◌+◌, ◌++◌, ◌∷◌, [], length, take, flat_map, codes, string_bytes}
use Rattle.std.specs.List.{sum_by}
use Rattle.ccr_lines.specs.Lines.{line}
use Rattle.ccr_lines.proofs.print.print_each_unused.Given as goal

abbrev pub invariant-loop-path : goal.invariant-loop-path
invariant-loop-path g l = record {
  told : g.O.Lines.written l.out ≡ g.O.Lines.written l.fn.out
      ++ flat_map (λ path. line (codes "unused " ∷ string_bytes path ∷ [])) (take l.path-index l.paths);
  left : g.O.Lines.room l.fn.out
      ≤ g.O.Lines.room l.out + sum_by (λ path. length (string_bytes path) + 8) (take l.path-index l.paths);
}
