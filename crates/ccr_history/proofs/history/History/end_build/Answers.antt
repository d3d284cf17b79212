use Rattle.std.proofs.Common.{sym, subst}
use Rattle.ccr_history.specs.History.{HistoryData}
use Rattle.ccr_history.specs.Changes.{AreMoved}
use Rattle.ccr_history.proofs.HistoryLaws.{builds_ended}
use Rattle.ccr_history.proofs.history.History.end_build.Goals as goal

pub invariant_of-self : goal.invariant_of-self
invariant_of-self c =
    let given : AreMoved c.self.inside.tables c.args.moved.now = subst (λ (h : HistoryData). AreMoved h.tables c.args.moved.now) (sym c.self.view_is) c.requires.moved in (
      c.self.invariant.0,
      builds_ended c.end.result c.self.inside.tables c.self.inside.builds c.end.new.self c.args.job.now c.args.number c.args.status c.args.moved.now
          c.self.invariant.1 c.requires.over given c.end.ensures.ended c.end.ensures.unchanged,
      c.self.invariant.2,
      c.self.invariant.3,
    )
