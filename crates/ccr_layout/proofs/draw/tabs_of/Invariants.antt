use Rattle.ccr_layout.specs.Drawing.{HasTabs}
use Rattle.ccr_layout.proofs.draw.tabs_of.Given as goal

abbrev pub invariant-loop-node : goal.invariant-loop-node
invariant-loop-node l = HasTabs l.spans l.bands l.tops l.nodes l.node 0 l.tabs.items
