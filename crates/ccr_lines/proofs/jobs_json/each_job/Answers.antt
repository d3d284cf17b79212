use Rattle.std.proofs.Common.{map, sym}
use Rattle.ccr_pipeline.specs.JobData.{resource_data, job_data}
use Rattle.ccr_lines.specs.Json.{after_comma}
use Rattle.ccr_lines.specs.JobsJson.{job_json}
use Rattle.ccr_lines.proofs.Showing.{lines_on}
use Rattle.ccr_lines.proofs.jobs_json.each_job.Goals as goal

pub loop-it-preserved : goal.loop-it-preserved
loop-it-preserved c =
    lines_on
    (λ n. after_comma (job_json (map resource_data c.args.resources.now) c.args.history.now (job_data n.job.now) n.outlook))
    c.args.next.now c.loop-it.it-index c.it-item.result c.loop-it.out.items c.push_job.new.out.items c.loop-it-test.true
    (sym c.it-item.is) c.loop-it.invariant c.in_ok-push_job.ensures
