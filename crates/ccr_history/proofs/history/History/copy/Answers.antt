use Rattle.ccr_history.proofs.HistoryLaws.{same_history}
use Rattle.ccr_history.proofs.history.History.copy.Goals as goal

pub invariant_of-result : goal.invariant_of-result
invariant_of-result c =
    same_history c.self.inside.tables c.in_ok-copy.field-0 c.self.inside.builds c.in_ok-copy-2.field-0 c.self.inside.pins c.in_ok-copy-3.field-0
    c.self.inside.disabled c.in_ok-copy-4.field-0 c.in_ok-copy.ensures c.in_ok-copy-2.ensures c.in_ok-copy-3.ensures c.in_ok-copy-4.ensures c.self.invariant
