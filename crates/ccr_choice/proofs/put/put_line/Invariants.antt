use Rattle.std.proofs.Common.{◌≡◌, ◌++◌, length, string_bytes}
use Rattle.ccr_choice.proofs.Joined.{line_rest}
use Rattle.ccr_choice.proofs.put.put_line.Given as goal

abbrev pub invariant-loop-rest : goal.invariant-loop-rest
invariant-loop-rest l = string_bytes l.out ++ line_rest l.rest ≡ string_bytes l.fn.out ++ line_rest l.words

abbrev pub decreases-loop-rest : goal.decreases-loop-rest
decreases-loop-rest l = length l.rest
