use Rattle.ccr_history.proofs.PinLaws.{cleared_kept}
use Rattle.ccr_history.proofs.history.History.clear_pin.Goals as goal

pub invariant_of-self : goal.invariant_of-self
invariant_of-self c =
    (c.self.invariant.0, c.self.invariant.1, rw c.clear.ensures.cleared (cleared_kept c.args.resource.now c.self.inside.pins c.self.invariant.2), c.self.invariant.3)
