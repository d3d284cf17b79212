use Rattle.ccr_process.proofs.Setting.{adds_next}
use Rattle.ccr_process.proofs.command.add_variables.Goals as goal

pub loop-name-preserved : goal.loop-name-preserved
loop-name-preserved c =
    adds_next c.args.env.now c.loop-name.name-index c.loop-name-item.result c.args.command.now c.loop-name.command c.set_variable.new.command c.loop-name-test.true c.loop-name-item.is c.loop-name.invariant
    (rw (← c.as_str.ensures.value, ← c.as_str-in-loop-name.ensures.value) c.in_ok-set_variable.ensures)
