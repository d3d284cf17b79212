use Rattle.std.proofs.Common.{◌∙◌, sym, refl}
use Rattle.ccr_core.specs.Events as event
use Rattle.ccr_serve.proofs.Refusing.{lacks, came_unmade}
use Rattle.ccr_serve.proofs.Steps.{cut_at_once}
use Rattle.ccr_serve.proofs.Told.{pin_stop, pin_unmade, pin_named, bad_pin, pin_made, pin_refused}
use Rattle.ccr_serve.proofs.server.Server.pin_resource.Goals as goal

pub returns-in-Err-clause-came : goal.returns-in-Err-clause-came
returns-in-Err-clause-came g c =
    lacks _ _ c.in-Err.fault _ c.requires.ready refl c.in-Err.ensures.lacks

pub returns-in-Ok-None-clause-came : goal.returns-in-Ok-None-clause-came
returns-in-Ok-None-clause-came g c =
    bad_pin _ _ _ _ c.requires.ready c.in-Ok.ensures.held (sym c.in-Ok-None.field-0-is ∙ c.in-Ok-None.ensures)

pub returns-in-Err-pin_of-clause-came : goal.returns-in-Err-pin_of-clause-came
returns-in-Err-pin_of-clause-came g c =
    cut_at_once _ (pin_stop _ _ _) c.requires.ready refl

pub returns-in_default-clause-came : goal.returns-in_default-clause-came
returns-in_default-clause-came g c =
    cut_at_once _ (pin_stop _ _ _) c.requires.ready c.begin.ensures.same

pub returns-in-Ok-Ok-clause-came : goal.returns-in-Ok-Ok-clause-came
returns-in-Ok-Ok-clause-came g c =
    pin_made _ c.args.text.now _ c.in-Ok-begin.ensures.copied
    (sym c.in-Ok-Some.field-0-is ∙ c.in-Ok-Some.ensures) c.in-Ok-Ok.field-0-is c.begin.ensures.same
    c.in-Ok-Ok.ensures.made (c.hand_out.ensures.same ∙ c.print_pinned.ensures)

pub returns-in-Ok-Err-clause-came : goal.returns-in-Ok-Err-clause-came
returns-in-Ok-Err-clause-came g c =
    pin_refused _ c.args.text.now _ c.in-Ok-begin.ensures.copied
    c.in-Ok-Err.field-0-is c.begin.ensures.same c.in-Ok-Err.ensures.made

pub returns-in-Err-make-clause-came : goal.returns-in-Err-make-clause-came
returns-in-Err-make-clause-came g c =
    came_unmade _ _ _ (pin_named _ _ _ c.in-Ok-begin.ensures.copied)
    (pin_unmade _ _ _ _ (sym (sym c.in-Ok-Some.field-0-is ∙ c.in-Ok-Some.ensures))) c.begin.ensures.same c.in-Err-make.ensures.unmade
