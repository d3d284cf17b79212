use Rattle.std.proofs.Common.{◌≡◌, ◌++◌, drop, string_bytes}
use Rattle.ccr_lines.specs.ExplainLines.{further_passed}
use Rattle.ccr_lines.proofs.explain_lines.push_further.Given as goal

abbrev pub invariant-loop-one : goal.invariant-loop-one
invariant-loop-one l =
    string_bytes l.text ++ further_passed (drop l.one-index l.passed) ≡ string_bytes l.fn.text ++ further_passed l.passed
