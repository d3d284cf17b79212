use Rattle.std.proofs.Common.{◌↔◌, length}
use Rattle.ccr_choice.specs.Later.{IsLater}
use Rattle.ccr_choice.proofs.order.later.Given as goal

abbrev pub invariant-loop-xs : goal.invariant-loop-xs
invariant-loop-xs l = IsLater l.xs l.ys ↔ IsLater l.first l.second

abbrev pub decreases-loop-xs : goal.decreases-loop-xs
decreases-loop-xs l = length l.xs
