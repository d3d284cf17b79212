use Rattle.std.proofs.Common.{length, take}
use Rattle.ccr_layout.specs.Wishes.{is_heard, middle_mean}
use Rattle.ccr_layout.specs.Means.{AreAdded}
use Rattle.ccr_layout.proofs.wish.heard_at.Given as goal

abbrev pub invariant-loop-line : goal.invariant-loop-line
invariant-loop-line l = AreAdded (is_heard l.wishes) (λ x. x.to) (middle_mean l.middles) (take l.line-index l.leaving) (length l.middles) l.means.items
