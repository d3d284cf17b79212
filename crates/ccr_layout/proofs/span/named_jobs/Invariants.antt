use Rattle.ccr_layout.specs.Passed.{AreNamed}
use Rattle.ccr_layout.proofs.span.named_jobs.Given as goal

abbrev pub invariant-loop-edge : goal.invariant-loop-edge
invariant-loop-edge l = AreNamed l.nodes l.edges l.edge-index l.named.items
