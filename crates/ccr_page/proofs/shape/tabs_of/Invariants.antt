use Rattle.std.proofs.Common.{◌≡◌, map, take}
use Rattle.ccr_page.specs.Shapes.{tab_width}
use Rattle.ccr_page.proofs.shape.tabs_of.Given as goal

abbrev pub invariant-loop-port : goal.invariant-loop-port
invariant-loop-port l = l.tabs.items ≡ map tab_width (take l.port-index l.ports)
