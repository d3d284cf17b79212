use Rattle.std.proofs.Common.{◌≡◌, length}
use Rattle.ccr_history.specs.Pairs.{is_same_pair}
use Rattle.ccr_history.specs.Conditions.{are_apart}
use Rattle.ccr_history.proofs.conditions.pairs_apart.Given as goal

abbrev pub invariant-loop-first : goal.invariant-loop-first
invariant-loop-first l = are_apart is_same_pair l.left ≡ are_apart is_same_pair l.fn.moved

abbrev pub decreases-loop-first : goal.decreases-loop-first
decreases-loop-first l = length l.left
