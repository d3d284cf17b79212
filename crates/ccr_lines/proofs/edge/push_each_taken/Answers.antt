use Rattle.std.proofs.Common.{sym}
use Rattle.ccr_pipeline.specs.Inputs.{input_data}
use Rattle.ccr_pipeline.specs.JobData.{resource_data}
use Rattle.ccr_lines.specs.Graphs.{taken_edge}
use Rattle.ccr_lines.proofs.Graphing.{numbered_told}
use Rattle.ccr_lines.proofs.edge.push_each_taken.Goals as goal

pub loop-n-preserved : goal.loop-n-preserved
loop-n-preserved c =
    numbered_told (taken_edge (input_data c.args.input.now) c.args.k) resource_data
    c.args.resources.now c.loop-n.n c.index-resources-n.result
    c.args.out.now.items c.loop-n.out.items c.push_taken.new.out.items c.loop-n-test.true (sym c.index-resources-n.is)
    c.loop-n.invariant c.in_ok-push_taken.ensures
