use Rattle.std.proofs.Common.{sym, subst}
use Rattle.ccr_history.specs.Text.{Text}
use Rattle.ccr_core.specs.Commands.{command_data}
use Rattle.ccr_core.specs.Cores.{core_data}
use Rattle.ccr_core.specs.declared.command.Command.{Command}
use Rattle.ccr_run.specs.Unmet.{pin_lines, unmet_lines}
use Rattle.ccr_run.specs.Writers.{GetsLines}
use Rattle.ccr_run.proofs.unmet.tell_unmet.Goals as goal

pub returns-in-PinResource : goal.returns-in-PinResource
returns-in-PinResource g c =
    let core = core_data c.args.core.now in
    let old = c.args.errors.now in
    let new = c.tell_pin.new.errors in
    subst (λ (command : Command). GetsLines (unmet_lines (command_data command) core) old new) (sym c.in-PinResource.is)
    (subst (λ (name : Text). GetsLines (pin_lines name core) old new) c.as_str.ensures.value c.tell_pin.ensures)
