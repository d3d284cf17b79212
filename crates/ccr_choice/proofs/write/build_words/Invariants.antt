use Rattle.std.proofs.Common.{◌≡◌, ◌++◌, length}
use Rattle.ccr_choice.specs.ProblemText.{pair_words, build_line}
use Rattle.ccr_choice.proofs.write.build_words.Given as goal

abbrev pub invariant-loop-rest : goal.invariant-loop-rest
invariant-loop-rest l = l.words.items ++ pair_words l.rest ≡ build_line l.build

abbrev pub decreases-loop-rest : goal.decreases-loop-rest
decreases-loop-rest l = length l.rest
