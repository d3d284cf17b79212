use Rattle.std.proofs.Common.{◌∙◌, sym}
use Rattle.ccr_command.proofs.Numbers.{number_read, none_read}
use Rattle.ccr_command.proofs.number.number_of.Goals as goal

pub returns-in-Ok : goal.returns-in-Ok
returns-in-Ok c = c.in_range.ensures ∙ sym (number_read c.args.text.now c.in-Ok.number c.in-Ok.ensures.value.0.0.0 c.in-Ok.ensures.value.0.1)

pub returns-in-Err : goal.returns-in-Err
returns-in-Err c = sym (none_read c.args.text.now c.in-Err.field-0 c.in-Err.ensures.value.0)
