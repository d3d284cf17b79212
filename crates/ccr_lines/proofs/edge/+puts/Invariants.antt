use Rattle.std.proofs.Common.{◌≡◌, map, drop}
use Rattle.ccr_pipeline.specs.Names.{has_name}
use Rattle.ccr_pipeline.specs.Tree.{tree_of, trees_of, gathered_in}
use Rattle.ccr_lines.specs.Graphs.{own_put}
use Rattle.ccr_lines.proofs.edge.+puts.Given as goal

abbrev pub invariant-one_puts-loop-step : goal.invariant-one_puts-loop-step
invariant-one_puts-loop-step l =
    has_name (gathered_in own_put (trees_of (map tree_of (drop l.step-index l.step-items)))) l.resource
    ≡ has_name (gathered_in own_put (trees_of (map tree_of l.step-items))) l.resource
