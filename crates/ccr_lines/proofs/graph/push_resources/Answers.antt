use Rattle.std.proofs.Common.{sym}
use Rattle.ccr_pipeline.specs.JobData.{resource_data}
use Rattle.ccr_lines.specs.Graphs.{resource_node}
use Rattle.ccr_lines.proofs.Graphing.{numbered_told}
use Rattle.ccr_lines.proofs.graph.push_resources.Goals as goal

pub loop-k-preserved : goal.loop-k-preserved
loop-k-preserved c =
    numbered_told (resource_node c.args.history.now) resource_data
    c.args.resources.now c.loop-k.k c.index-resources-k.result
    c.args.out.now.items c.loop-k.out.items c.push_resource.new.out.items
    c.loop-k-test.true (sym c.index-resources-k.is) c.loop-k.invariant c.in_ok-push_resource.ensures
