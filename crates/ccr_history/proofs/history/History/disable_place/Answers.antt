use Rattle.std.proofs.Common.{IsTrue, sym, subst}
use Rattle.ccr_history.specs.History.{HistoryData, has_place}
use Rattle.ccr_history.proofs.DisabledLaws.{disabled_added}
use Rattle.ccr_history.proofs.history.History.disable_place.Goals as goal

pub invariant_of-self : goal.invariant_of-self
invariant_of-self c =
    let there : IsTrue (has_place c.self.inside.tables c.args.number c.args.place) =
    subst (λ (h : HistoryData). IsTrue (has_place h.tables c.args.number c.args.place)) (sym c.self.view_is) c.requires in (
      c.self.invariant.0,
      c.self.invariant.1,
      c.self.invariant.2,
      disabled_added c.add.result c.self.inside.tables c.args.number c.args.place c.self.inside.disabled c.add.new.self
          c.self.invariant.3 there c.add.ensures.added c.add.ensures.unchanged,
    )
