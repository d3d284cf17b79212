use Rattle.std.proofs.Common.{◌≡◌, length}
use Rattle.ccr_choice.specs.Problem.{are_pairs_after}
use Rattle.ccr_index.proofs.rules.are_pairs.Given as goal

abbrev pub invariant-loop-rest : goal.invariant-loop-rest
invariant-loop-rest l = are_pairs_after l.scopes l.scope l.place l.rest ≡ are_pairs_after l.scopes 0 0 l.pairs

abbrev pub decreases-loop-rest : goal.decreases-loop-rest
decreases-loop-rest l = length l.rest
