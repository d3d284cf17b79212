use Rattle.ccr_lines.proofs.PastLaws.{places_told}
use Rattle.ccr_lines.proofs.past.places_to.Goals as goal

pub loop-k-preserved : goal.loop-k-preserved
loop-k-preserved c =
    places_told c.loop-k.k c.loop-k.places.items c.push.new.self.items c.loop-k.invariant c.in_ok-push.ensures.items
