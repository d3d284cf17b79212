use Rattle.ccr_layout.specs.Columns.{AreStood}
use Rattle.ccr_layout.proofs.span.columns_of.Given as goal

abbrev pub invariant-loop-node : goal.invariant-loop-node
invariant-loop-node l = AreStood l.nodes l.layers l.gotten l.put l.columns.items l.node
