use Rattle.ccr_layout.specs.Drawing.{HasTabs}
use Rattle.ccr_layout.proofs.draw.push_tabs.Given as goal

abbrev pub invariant-loop-port : goal.invariant-loop-port
invariant-loop-port l = HasTabs l.spans l.bands l.tops l.nodes l.node l.port l.tabs.items
