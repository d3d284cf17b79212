use Rattle.std.proofs.Common.{◌≡◌, ◌++◌, drop, map}
use Rattle.ccr_overview.specs.Each.{each_from}
use Rattle.ccr_overview.specs.Overviews.{job_shown}
use Rattle.ccr_overview.specs.PageData.{page_job_data}
use Rattle.ccr_overview.specs.Scenes.{scene_data, told_data}
use Rattle.ccr_overview.proofs.job.jobs_shown.Given as goal

abbrev pub invariant-loop-at : goal.invariant-loop-at
invariant-loop-at l =
    map page_job_data l.jobs.items ++ each_from (job_shown (scene_data l.scene)) l.at (map told_data (drop l.at l.told-items)) ≡ each_from (job_shown (scene_data l.scene)) 0 (map told_data l.told-items)
