use Rattle.std.proofs.Common.{sym}
use Rattle.ccr_pipeline.specs.JobData.{resource_data, job_data}
use Rattle.ccr_lines.specs.Graphs.{put_edge}
use Rattle.ccr_lines.proofs.Graphing.{numbered_told}
use Rattle.ccr_lines.proofs.edge.push_edges_from.Goals as goal

pub loop-n-preserved : goal.loop-n-preserved
loop-n-preserved c =
    numbered_told (put_edge (job_data c.args.job.now).plan c.args.k) resource_data
    c.args.resources.now c.loop-n.n c.index-resources-n.result
    c.args.out.now.items c.loop-n.out.items c.push_put.new.out.items c.loop-n-test.true (sym c.index-resources-n.is)
    c.loop-n.invariant c.in_ok-push_put.ensures
