use Rattle.std.proofs.Common.{◌≤◌}
use Rattle.ccr_layout.specs.Bands.{HasRoom}
use Rattle.ccr_layout.proofs.across.widest.Given as goal

abbrev pub invariant-loop-node : goal.invariant-loop-node
invariant-loop-node l = record { tabs : l.tabs ≤ 1000; boxes : l.boxes ≤ 1000; room : HasRoom l.nodes l.spans l.node l.column l.tabs l.boxes }
