use Rattle.std.proofs.Common.{ap, sym, ◌∙◌}
use Rattle.ccr_history.proofs.Numbers.{number_of, scope_number-entries}
use Rattle.ccr_history.proofs.tables.Tables.scope_number.Goals as goal

pub returns-in-Some : goal.returns-in-Some
returns-in-Some c = rw (← c.self.view_is) (ap number_of c.in-Some.ensures.index ∙ sym (scope_number-entries c.args.scope.now c.self.inside.tables.entries))

pub returns-in-None : goal.returns-in-None
returns-in-None c = rw (← c.self.view_is) (ap number_of c.in-None.ensures.index ∙ sym (scope_number-entries c.args.scope.now c.self.inside.tables.entries))
