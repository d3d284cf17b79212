use Rattle.std.proofs.Common.{◌∙◌, false, sym}
use Rattle.std.proofs.lemmas.List.Folds.{flat_map-map}
use Rattle.ccr_pipeline.specs.JobData.{job_data}
use Rattle.ccr_lines.specs.JobsJson.{newest_that}
use Rattle.ccr_lines.specs.Red.{red_if}
use Rattle.ccr_lines.proofs.red.red_builds.Goals as goal

pub returns : goal.returns
returns c =
    c.in_ok-builds.ensures
    ∙ sym (flat_map-map (λ j. red_if (newest_that false j.name c.args.history.now)) job_data c.args.jobs.now)
