use Rattle.std.proofs.Common.{length, take}
use Rattle.ccr_layout.specs.Wishes.{hears}
use Rattle.ccr_layout.specs.Means.{mean_in, AreAdded}
use Rattle.ccr_layout.proofs.wish.hearing.Given as goal

abbrev pub invariant-loop-line : goal.invariant-loop-line
invariant-loop-line l = AreAdded (hears l.wishes) (λ x. x.from) (λ x. mean_in l.heard x.to) (take l.line-index l.leaving) (length l.heard) l.means.items
