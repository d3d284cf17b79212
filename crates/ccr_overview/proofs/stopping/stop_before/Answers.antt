use Rattle.std.proofs.Common.{sym, ◌∙◌, ap}
use Rattle.std.specs.Option.{option_copied}
use Rattle.ccr_lines.specs.Stops.{stop_data}
use Rattle.ccr_overview.specs.Scenes.{scene_data}
use Rattle.ccr_overview.specs.Stopping.{pair_of}
use Rattle.ccr_overview.proofs.Halting.{stopped_before}
use Rattle.ccr_overview.proofs.stopping.stop_before.Goals as goal

pub returns-in_ok-stop-in-Some : goal.returns-in_ok-stop-in-Some
returns-in_ok-stop-in-Some c =
    let s = scene_data c.args.scene.now in
    stopped_before s.pipeline s.history c.pair_of-pair.result (pair_of s c.args.taken.now c.args.place) c.deref.result.now
    c.args.taken.now.passed c.in-Some.job.now c.as_str.result.now (stop_data c.in_ok-stop-in-Some.stop) c.pair_of-pair.ensures
    (c.deref.ensures.value ∙ ap (λ t. t.passed) c.taken.view_is)
    (sym (ap option_copied c.in-Some.is) ∙ c.first_unpassed.ensures)
    (c.as_str.ensures.value ∙ ap (λ q. q.job) c.job.view_is) c.in_ok-stop-in-Some.ensures
