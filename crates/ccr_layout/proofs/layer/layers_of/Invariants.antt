use Rattle.ccr_layout.proofs.LayerLaws.{AreLayered}
use Rattle.ccr_layout.proofs.layer.layers_of.Given as goal

abbrev pub invariant-loop-turn : goal.invariant-loop-turn
invariant-loop-turn l = AreLayered l.named l.done.items l.layers.items l.turn
