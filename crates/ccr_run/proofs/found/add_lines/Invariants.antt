use Rattle.std.proofs.Common.{◌≡◌, ◌++◌, drop, map, string_bytes}
use Rattle.ccr_run.specs.Found.{lines_text}
use Rattle.ccr_run.proofs.found.add_lines.Given as goal

abbrev pub invariant-loop-line : goal.invariant-loop-line
invariant-loop-line l = string_bytes l.text ++ lines_text (map string_bytes (drop l.line-index l.lines)) ≡ string_bytes l.initial.text ++ lines_text (map string_bytes l.lines)
