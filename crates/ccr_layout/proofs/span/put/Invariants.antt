use Rattle.ccr_layout.specs.Columns.{ArePut}
use Rattle.ccr_layout.proofs.span.put.Given as goal

abbrev pub invariant-loop-edge : goal.invariant-loop-edge
invariant-loop-edge l = ArePut l.nodes l.edges l.layers l.edge-index l.columns.items
