use Rattle.std.proofs.Common.{◌∙◌, ap}
use Rattle.ccr_core.specs.Events as event
use Rattle.ccr_serve.proofs.Refusing.{came_unmade}
use Rattle.ccr_serve.proofs.Steps.{cut_at_once}
use Rattle.ccr_serve.proofs.Told.{unpin_stop, unpin_unmade, unpin_made, unpin_refused}
use Rattle.ccr_serve.proofs.server.Server.unpin_resource.Goals as goal

pub returns-in_default-clause-came : goal.returns-in_default-clause-came
returns-in_default-clause-came g c =
    cut_at_once _ (unpin_stop _ _) c.requires.ready c.begin.ensures.same

pub returns-in-Ok-Ok-clause-came : goal.returns-in-Ok-Ok-clause-came
returns-in-Ok-Ok-clause-came g c =
    unpin_made _ _ c.in-Ok.ensures.copied c.in-Ok-Ok.field-0-is c.begin.ensures.same
    c.in-Ok-Ok.ensures.made (c.hand_out.ensures.same ∙ c.print_unpinned.ensures)

pub returns-in-Ok-Err-clause-came : goal.returns-in-Ok-Err-clause-came
returns-in-Ok-Err-clause-came g c =
    unpin_refused _ _ c.in-Ok.ensures.copied c.in-Ok-Err.field-0-is c.begin.ensures.same c.in-Ok-Err.ensures.made

pub returns-in-Err-clause-came : goal.returns-in-Err-clause-came
returns-in-Err-clause-came g c =
    came_unmade _ _ _ (ap (λ t. event.unpin t) c.in-Ok.ensures.copied) (unpin_unmade _ _) c.begin.ensures.same c.in-Err.ensures.unmade
