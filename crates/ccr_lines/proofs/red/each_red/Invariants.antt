use Rattle.std.proofs.Common.{◌≡◌, false, take, flat_map}
use Rattle.ccr_pipeline.specs.JobData.{job_data}
use Rattle.ccr_lines.specs.JobsJson.{newest_that}
use Rattle.ccr_lines.specs.Red.{red_if}
use Rattle.ccr_lines.proofs.red.each_red.Given as goal

abbrev pub invariant-loop-job : goal.invariant-loop-job
invariant-loop-job l =
    l.builds.items ≡ flat_map (λ j. red_if (newest_that false (job_data j).name l.history)) (take l.job-index l.jobs)
