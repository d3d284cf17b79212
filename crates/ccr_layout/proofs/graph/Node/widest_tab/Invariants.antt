use Rattle.std.proofs.Common.{◌≤◌}
use Rattle.ccr_layout.proofs.RoomLaws.{IsWidest}
use Rattle.ccr_layout.proofs.graph.Node.widest_tab.Given as goal

abbrev pub invariant-loop-tab : goal.invariant-loop-tab
invariant-loop-tab l = record { low : l.widest ≤ 1000; widest : IsWidest l.self.tabs.items l.tab-index l.widest }
