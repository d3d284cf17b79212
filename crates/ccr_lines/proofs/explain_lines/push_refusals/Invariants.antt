use Rattle.std.proofs.Common.{◌≡◌, ◌++◌, take, flat_map, string_bytes}
use Rattle.ccr_lines.specs.ExplainLines.{refusal_line}
use Rattle.ccr_lines.proofs.explain_lines.push_refusals.Given as goal

abbrev pub invariant-loop-refusal : goal.invariant-loop-refusal
invariant-loop-refusal l =
    string_bytes l.text ≡ string_bytes l.fn.text ++ flat_map (refusal_line l.name) (take l.refusal-index l.refusals)
