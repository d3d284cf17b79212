use Rattle.std.proofs.Common.{Some, sym, ◌∙◌, ap, map, option_map, string_bytes}
use Rattle.ccr_pipeline.specs.Inputs.{input_data}
use Rattle.ccr_overview.specs.PageData.{word_data}
use Rattle.ccr_overview.specs.Scenes.{scene_data}
use Rattle.ccr_overview.specs.Waits.{wait_for, wait_among}
use Rattle.ccr_overview.proofs.Firsts.{first_here, first_on}
use Rattle.ccr_overview.proofs.wait.wait_among.Goals as goal

pub returns-in-Some : goal.returns-in-Some
returns-in-Some c =
    let f = wait_for (scene_data c.args.scene.now) c.args.words.now (input_data c.args.input.now) in
    first_here f string_bytes c.args.jobs.now c.loop-job.job-index c.job-item.result
    (wait_among (scene_data c.args.scene.now) c.args.words.now (input_data c.args.input.now) (map string_bytes c.args.jobs.now))
    c.loop-job-test.true (sym c.job-item.is) c.loop-job.invariant (map word_data c.in-Some.found.items)
    (sym (ap (option_map (λ ws. map word_data ws.items)) c.in-Some.is) ∙ (c.in_ok-told.ensures ∙ ap f c.as_str.ensures.value))

pub loop-job-preserved : goal.loop-job-preserved
loop-job-preserved c =
    let f = wait_for (scene_data c.args.scene.now) c.args.words.now (input_data c.args.input.now) in
    first_on f string_bytes c.args.jobs.now c.loop-job.job-index c.job-item.result
    (wait_among (scene_data c.args.scene.now) c.args.words.now (input_data c.args.input.now) (map string_bytes c.args.jobs.now))
    c.loop-job-test.true (sym c.job-item.is) c.loop-job.invariant
    (sym (ap (option_map (λ ws. map word_data ws.items)) c.in-None.is) ∙ (c.in_ok-told.ensures ∙ ap f c.as_str.ensures.value))
