use Rattle.std.proofs.Common.{◌≡◌, ◌++◌, length, map, string_bytes}
use Rattle.ccr_choice.specs.Text.{text_of}
use Rattle.ccr_choice.specs.ProblemText.{build_line}
use Rattle.ccr_choice.proofs.write.put_builds.Given as goal

abbrev pub invariant-loop-rest : goal.invariant-loop-rest
invariant-loop-rest l = string_bytes l.out ++ text_of (map build_line l.rest) ≡ string_bytes l.fn.out ++ text_of (map build_line l.builds)

abbrev pub decreases-loop-rest : goal.decreases-loop-rest
decreases-loop-rest l = length l.rest
