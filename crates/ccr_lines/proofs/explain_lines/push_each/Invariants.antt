use Rattle.std.proofs.Common.{◌≡◌, ◌++◌, take, flat_map, string_bytes}
use Rattle.ccr_lines.specs.ExplainLines.{taken_lines}
use Rattle.ccr_lines.proofs.explain_lines.push_each.Given as goal

abbrev pub invariant-loop-taken : goal.invariant-loop-taken
invariant-loop-taken l =
    string_bytes l.text ≡ string_bytes l.fn.text ++ flat_map (λ t. taken_lines t) (take l.taken-index l.inputs)
