use Rattle.std.proofs.Common.{◌≡◌, ◌++◌}
use Rattle.ccr_history.specs.Pins.{pins_of}
use Rattle.ccr_history.proofs.pins.Pins.copy.Given as goal

abbrev pub invariant-loop-resource : goal.invariant-loop-resource
invariant-loop-resource l = l.pins ++ pins_of l.resource-iterator ≡ l.self
