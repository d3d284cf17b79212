use Rattle.ccr_history.proofs.history.History.set_pin.Goals as goal

pub invariant_of-self-2 : goal.invariant_of-self-2
invariant_of-self-2 c = (c.self.invariant.0, c.self.invariant.1, c.in_ok-set.ensures.kept, c.self.invariant.3)
