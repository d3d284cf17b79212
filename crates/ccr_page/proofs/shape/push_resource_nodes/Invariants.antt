use Rattle.std.proofs.Common.{◌≡◌, ◌++◌, map, take}
use Rattle.ccr_page.specs.Shapes.{node_data, resource_node}
use Rattle.ccr_page.proofs.shape.push_resource_nodes.Given as goal

abbrev pub invariant-loop-resource : goal.invariant-loop-resource
invariant-loop-resource l = map node_data l.nodes.items ≡ map node_data l.fn.nodes.items ++ map resource_node (take l.resource-index l.resources)
