use Rattle.std.proofs.Common.{ap, sym, ◌∙◌}
use Rattle.ccr_history.proofs.Numbers.{number_of, place_in-position}
use Rattle.ccr_history.proofs.table.Table.place_of.Goals as goal

pub returns-in-Some : goal.returns-in-Some
returns-in-Some c = rw (← c.self.view_is) (ap number_of c.in-Some.ensures.index ∙ sym (place_in-position c.args.version.now c.self.inside.versions.keys))

pub returns-in-None : goal.returns-in-None
returns-in-None c = rw (← c.self.view_is) (ap number_of c.in-None.ensures.index ∙ sym (place_in-position c.args.version.now c.self.inside.versions.keys))
