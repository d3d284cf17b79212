use Rattle.ccr_explain.proofs.Steps.{places_more}
use Rattle.ccr_explain.proofs.cut.places_to.Goals as goal

pub loop-k-preserved : goal.loop-k-preserved
loop-k-preserved c = places_more c.loop-k.k c.loop-k.places.items _ c.loop-k.invariant c.in_ok-push.ensures.items
