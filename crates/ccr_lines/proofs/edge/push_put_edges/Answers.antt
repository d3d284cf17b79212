use Rattle.std.proofs.Common.{map, sym}
use Rattle.ccr_pipeline.specs.JobData.{resource_data, job_data}
use Rattle.ccr_lines.specs.Graphs.{edges_from}
use Rattle.ccr_lines.proofs.Graphing.{numbered_told}
use Rattle.ccr_lines.proofs.edge.push_put_edges.Goals as goal

pub loop-k-preserved : goal.loop-k-preserved
loop-k-preserved c =
    numbered_told (edges_from (map resource_data c.args.resources.now)) job_data
    c.args.jobs.now c.loop-k.k c.index-jobs-k.result
    c.args.out.now.items c.loop-k.out.items c.push_edges_from.new.out.items c.loop-k-test.true (sym c.index-jobs-k.is)
    c.loop-k.invariant c.in_ok-push_edges_from.ensures
