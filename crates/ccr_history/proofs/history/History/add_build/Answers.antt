use Rattle.std.proofs.Common.{sym, subst}
use Rattle.ccr_history.specs.History.{HistoryData}
use Rattle.ccr_history.specs.Changes.{AreUsed}
use Rattle.ccr_history.proofs.HistoryLaws.{builds_added}
use Rattle.ccr_history.proofs.history.History.add_build.Goals as goal

pub invariant_of-self : goal.invariant_of-self
invariant_of-self c =
    let given : AreUsed c.self.inside.tables c.args.used.now = subst (λ (h : HistoryData). AreUsed h.tables c.args.used.now) (sym c.self.view_is) c.requires in (
      c.self.invariant.0,
      builds_added c.add.result c.self.inside.tables c.self.inside.builds c.add.new.self c.args.job.now c.args.used.now
          c.self.invariant.1 given c.add.ensures.added c.add.ensures.unchanged c.add.ensures.full,
      c.self.invariant.2,
      c.self.invariant.3,
    )
