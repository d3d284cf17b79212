use Rattle.std.proofs.Common.{sym}
use Rattle.ccr_pipeline.specs.Inputs.{input_data}
use Rattle.ccr_pipeline.specs.JobData.{job_data}
use Rattle.ccr_lines.specs.Graphs.{passed_edge}
use Rattle.ccr_lines.proofs.Graphing.{numbered_told}
use Rattle.ccr_lines.proofs.edge.push_each_passed.Goals as goal

pub loop-n-preserved : goal.loop-n-preserved
loop-n-preserved c =
    numbered_told (passed_edge (input_data c.args.input.now) c.args.k c.args.name.now) job_data
    c.args.jobs.now c.loop-n.n c.index-jobs-n.result
    c.args.out.now.items c.loop-n.out.items c.push_passed.new.out.items c.loop-n-test.true (sym c.index-jobs-n.is)
    c.loop-n.invariant c.in_ok-push_passed.ensures
