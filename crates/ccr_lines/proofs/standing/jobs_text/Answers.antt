use Rattle.std.proofs.Common.{sym, string_bytes}
use Rattle.ccr_pipeline.specs.JobData.{job_data}
use Rattle.ccr_lines.specs.Standing.{job_state}
use Rattle.ccr_lines.proofs.Showing.{lines_on}
use Rattle.ccr_lines.proofs.standing.jobs_text.Goals as goal

pub loop-it-preserved : goal.loop-it-preserved
loop-it-preserved c =
    lines_on (λ n. job_state c.args.history.now (job_data n.job.now) n.outlook) c.args.next.now c.loop-it.it-index
    c.it-item.result (string_bytes c.loop-it.text) (string_bytes c.push_job.new.text) c.loop-it-test.true
    (sym c.it-item.is) c.loop-it.invariant c.in_ok-push_job.ensures
