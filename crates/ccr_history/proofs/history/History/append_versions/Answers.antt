use Rattle.ccr_history.proofs.HistoryLaws.{builds_reported}
use Rattle.ccr_history.proofs.DisabledLaws.{disabled_reported}
use Rattle.ccr_history.proofs.history.History.append_versions.Goals as goal

pub invariant_of-self : goal.invariant_of-self
invariant_of-self c = (
  c.append.ensures.kept,
  builds_reported c.append.result c.self.inside.tables c.append.new.self c.self.inside.builds c.args.scope.now c.args.seen.now
      c.self.invariant.1 c.append.ensures.ok c.append.ensures.err,
  c.self.invariant.2,
  disabled_reported c.append.result c.self.inside.tables c.append.new.self c.self.inside.disabled c.args.scope.now c.args.seen.now
      c.self.invariant.3 c.append.ensures.ok c.append.ensures.err,
)
