use Rattle.std.proofs.Common.{◌∙◌, ap}
use Rattle.ccr_core.specs.Events as event
use Rattle.ccr_serve.proofs.Refusing.{came_unmade}
use Rattle.ccr_serve.proofs.Steps.{cut_at_once}
use Rattle.ccr_serve.proofs.Switched.{enable_stop, enable_unmade, enable_made, enable_refused}
use Rattle.ccr_serve.proofs.server.Server.enable_version.Goals as goal

pub returns-in_default-clause-came : goal.returns-in_default-clause-came
returns-in_default-clause-came g c =
    cut_at_once _ (enable_stop _ _ _) c.requires.ready c.begin.ensures.same

pub returns-in-Ok-Ok-clause-came : goal.returns-in-Ok-Ok-clause-came
returns-in-Ok-Ok-clause-came g c =
    enable_made _ _ c.in-Ok.ensures.copied c.in-Ok-Ok.field-0-is c.begin.ensures.same
    c.in-Ok-Ok.ensures.made (c.hand_out.ensures.same ∙ c.print_enabled.ensures)

pub returns-in-Ok-Err-clause-came : goal.returns-in-Ok-Err-clause-came
returns-in-Ok-Err-clause-came g c =
    enable_refused _ _ c.in-Ok.ensures.copied c.in-Ok-Err.field-0-is c.begin.ensures.same c.in-Ok-Err.ensures.made

pub returns-in-Err-clause-came : goal.returns-in-Err-clause-came
returns-in-Err-clause-came g c =
    came_unmade _ _ _ (ap (λ t. event.enable t c.args.place) c.in-Ok.ensures.copied) (enable_unmade _ _ _) c.begin.ensures.same c.in-Err.ensures.unmade
