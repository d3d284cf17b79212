use Rattle.std.proofs.Common.{◌≡◌}
use Rattle.ccr_layout.specs.Turns.{steps_back}
use Rattle.ccr_layout.proofs.layer.walked_back.Given as goal

abbrev pub invariant-loop-step : goal.invariant-loop-step
invariant-loop-step l = l.node ≡ steps_back l.named l.done l.step l.start
