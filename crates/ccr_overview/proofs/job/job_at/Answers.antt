use Rattle.std.proofs.Common.{◌∙◌, ap}
use Rattle.std.specs.Option.{option_copied}
use Rattle.ccr_history.specs.Builds.{build_of, count_of}
use Rattle.ccr_lines.specs.Standing.{newest_build}
use Rattle.ccr_overview.specs.PageBuilds.{listed}
use Rattle.ccr_overview.specs.Scenes.{scene_data, told_data}
use Rattle.ccr_overview.proofs.Posting.{job_so}
use Rattle.ccr_overview.proofs.job.job_at.Goals as goal

pub returns : goal.returns
returns c =
    let s = scene_data c.args.scene.now in
    let t = told_data c.args.told.now in
    let h = s.history in
    job_so c.job_listed.result s c.args.at t (option_copied c.as_ref.result) (newest_build t.job.name h) c.deref.result.now
    (listed h s.rows t.job.name) c.job_listed.ensures
    (c.as_ref.ensures.value
    ∙ (c.build-newest.ensures
    ∙ (ap (λ n. build_of c.as_str-job.result.now n h.builds) c.count_of.ensures
    ∙ ap (λ j. build_of j (count_of j h.builds) h.builds) c.as_str-job.ensures.value)))
    (c.deref.ensures.value ∙ (c.in_ok-positions.ensures ∙ ap (listed h s.rows) c.as_str-job.ensures.value))
