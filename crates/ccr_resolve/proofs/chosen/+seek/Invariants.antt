use Rattle.ccr_choice.specs.Preference.{order_of}
use Rattle.ccr_resolve.specs.Search.{places_of, free_jobs}
use Rattle.ccr_resolve.proofs.SoughtLaws.{IsTrying}
use Rattle.ccr_resolve.proofs.chosen.+seek.Given as goal

abbrev pub decreases-seek : goal.decreases-seek
decreases-seek l = free_jobs l.fixed.now

abbrev pub invariant-loop-t : goal.invariant-loop-t
invariant-loop-t l = IsTrying (order_of l.index.problem) l.index.problem l.fixed l.j l.found.builds.items (places_of l.fn.best) l.fn.left l.t l.best l.left
