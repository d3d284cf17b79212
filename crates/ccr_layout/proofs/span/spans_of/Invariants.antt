use Rattle.ccr_layout.proofs.StepLaws.{AreSpansTo}
use Rattle.ccr_layout.proofs.span.spans_of.Given as goal

abbrev pub invariant-loop-node : goal.invariant-loop-node
invariant-loop-node l = AreSpansTo l.nodes l.columns l.reaches l.node l.spans.items
