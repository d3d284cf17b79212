use Rattle.std.proofs.Common.{sym}
use Rattle.ccr_pipeline.specs.JobData.{job_data}
use Rattle.ccr_pipeline.specs.Pipelines.{pipeline_data}
use Rattle.ccr_lines.specs.Graphs.{edges_to}
use Rattle.ccr_lines.proofs.Graphing.{numbered_told}
use Rattle.ccr_lines.proofs.edge.push_taken_edges.Goals as goal

pub loop-k-preserved : goal.loop-k-preserved
loop-k-preserved c =
    numbered_told (edges_to (pipeline_data c.args.pipeline.now)) job_data
    c.args.jobs.now c.loop-k.k c.index-jobs-k.result
    c.args.out.now.items c.loop-k.out.items c.push_edges_to.new.out.items c.loop-k-test.true (sym c.index-jobs-k.is)
    c.loop-k.invariant c.in_ok-push_edges_to.ensures
