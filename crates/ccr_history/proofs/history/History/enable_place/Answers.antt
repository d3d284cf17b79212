use Rattle.std.proofs.Common.{sym, subst}
use Rattle.ccr_history.specs.History.{AreDisabled}
use Rattle.ccr_history.proofs.DisabledLaws.{one_enabled}
use Rattle.ccr_history.proofs.history.History.enable_place.Goals as goal

pub invariant_of-self : goal.invariant_of-self
invariant_of-self c = (
  c.self.invariant.0,
  c.self.invariant.1,
  c.self.invariant.2,
  subst (AreDisabled c.self.inside.tables) (sym c.remove.ensures.removed)
      (one_enabled c.self.inside.tables c.args.number c.args.place c.self.inside.disabled c.self.invariant.3),
)
