use Rattle.std.proofs.Common.{sym, map}
use Rattle.ccr_overview.specs.Each.{each_from}
use Rattle.ccr_overview.specs.Overviews.{job_at, job_shown}
use Rattle.ccr_overview.specs.PageData.{page_job_data}
use Rattle.ccr_overview.specs.Scenes.{scene_data, told_data}
use Rattle.ccr_overview.proofs.Posting.{one_on}
use Rattle.ccr_overview.proofs.job.jobs_shown.Goals as goal

pub loop-at-preserved : goal.loop-at-preserved
loop-at-preserved c =
    let s = scene_data c.args.scene.now in
    one_on page_job_data told_data (job_at s) c.args.scene.now.told.now c.loop-at.at c.told-item.result c.loop-at.jobs.items
    c.push.new.self.items c.in_ok-job.job (each_from (job_shown s) 0 (map told_data c.args.scene.now.told.now))
    c.loop-at-test.true (sym c.told-item.is) c.in_ok-push.ensures.items c.in_ok-job.ensures c.loop-at.invariant
