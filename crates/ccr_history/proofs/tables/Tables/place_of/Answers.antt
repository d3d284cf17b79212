use Rattle.std.proofs.Common.{ap, ◌∙◌}
use Rattle.ccr_history.specs.Tables.{place_in}
use Rattle.ccr_history.proofs.TableEntries.{versions_found, versions_missing}
use Rattle.ccr_history.proofs.tables.Tables.place_of.Goals as goal

pub returns-in-Some : goal.returns-in-Some
returns-in-Some c = rw (← c.self.view_is) (c.place_of.ensures ∙ ap (place_in c.args.version.now) (versions_found c.args.scope.now c.self.inside.tables.entries _ c.in-Some.ensures.value))

pub returns-in-None : goal.returns-in-None
returns-in-None c = rw (← c.self.view_is) (ap (place_in c.args.version.now) (versions_missing c.args.scope.now c.self.inside.tables.entries c.in-None.ensures.value))
