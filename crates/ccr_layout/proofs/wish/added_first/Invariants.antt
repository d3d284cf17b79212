use Rattle.std.proofs.Common.{take}
use Rattle.ccr_layout.specs.Lines.{ends_at_box}
use Rattle.ccr_layout.specs.Wishes.{job_mean}
use Rattle.ccr_layout.specs.Means.{AreAdded}
use Rattle.ccr_layout.proofs.wish.added_first.Given as goal

abbrev pub invariant-loop-line : goal.invariant-loop-line
invariant-loop-line l = AreAdded (ends_at_box) (λ x. x.from) (job_mean) (take l.line-index l.leaving) (l.nodes) l.means.items
