use Rattle.ccr_history.proofs.PinLaws.{no_pins}
use Rattle.ccr_history.proofs.pins.Pins.new.Goals as goal

pub invariant_of-result : goal.invariant_of-result
invariant_of-result c = rw c.new.ensures.empty no_pins
