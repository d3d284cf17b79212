use Rattle.std.proofs.Common.{length, take}
use Rattle.ccr_layout.specs.Wishes.{counts_left, left_mean}
use Rattle.ccr_layout.specs.Means.{AreAdded}
use Rattle.ccr_layout.proofs.wish.added_left.Given as goal

abbrev pub invariant-loop-line : goal.invariant-loop-line
invariant-loop-line l = AreAdded (counts_left l.all) (λ x. x.to) (left_mean l.middles) (take l.line-index l.lines) (length l.middles) l.means.items
