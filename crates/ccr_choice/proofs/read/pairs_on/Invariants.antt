use Rattle.std.proofs.Common.{◌≡◌, ◌++◌, length, option_map}
use Rattle.ccr_choice.specs.ProblemText.{pairs_on}
use Rattle.ccr_choice.proofs.read.pairs_on.Given as goal

abbrev pub invariant-loop-rest : goal.invariant-loop-rest
invariant-loop-rest l = option_map (λ ps. l.pairs.items ++ ps) (pairs_on l.rest) ≡ pairs_on l.words

abbrev pub decreases-loop-rest : goal.decreases-loop-rest
decreases-loop-rest l = length l.rest
