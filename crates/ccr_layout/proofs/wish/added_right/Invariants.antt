use Rattle.std.proofs.Common.{take, true}
use Rattle.ccr_layout.specs.Wishes.{right_mean}
use Rattle.ccr_layout.specs.Means.{AreAdded}
use Rattle.ccr_layout.proofs.wish.added_right.Given as goal

abbrev pub invariant-loop-line : goal.invariant-loop-line
invariant-loop-line l = AreAdded (λ x. true) (λ x. x.from) (right_mean l.tops) (take l.line-index l.leaving) (l.nodes) l.means.items
