use Rattle.std.proofs.Common.{◌∙◌}
use Rattle.ccr_history.proofs.TableEntries.{versions_found, versions_missing}
use Rattle.ccr_history.proofs.tables.Tables.versions.Goals as goal

pub returns-in-Some : goal.returns-in-Some
returns-in-Some c = rw (← c.self.view_is) (c.versions.ensures ∙ versions_found c.args.scope.now c.self.inside.tables.entries _ c.in-Some.ensures.value)

pub returns-in-None : goal.returns-in-None
returns-in-None c = rw (← c.self.view_is) (versions_missing c.args.scope.now c.self.inside.tables.entries c.in-None.ensures.value)
