use Rattle.std.proofs.Common.{◌∙◌, ◌++◌, false, sym, ap}
use Rattle.ccr_pipeline.specs.JobData.{job_data}
use Rattle.ccr_lines.specs.JobsJson.{newest_that}
use Rattle.ccr_lines.specs.Red.{red_if}
use Rattle.ccr_lines.proofs.Showing.{lines_on}
use Rattle.ccr_lines.proofs.red.each_red.Goals as goal

pub loop-job-preserved : goal.loop-job-preserved
loop-job-preserved c =
    lines_on (λ j. red_if (newest_that false (job_data j).name c.args.history.now)) c.args.jobs.now c.loop-job.job-index
    c.job-item.result c.loop-job.builds.items c.push_red.new.builds.items c.loop-job-test.true (sym c.job-item.is)
    c.loop-job.invariant
    (c.in_ok-push_red.ensures
    ∙ ap (λ o. c.loop-job.builds.items ++ red_if o)
    (c.newest_of-found.ensures ∙ ap (λ name. newest_that false name c.args.history.now) c.as_str.ensures.value))
