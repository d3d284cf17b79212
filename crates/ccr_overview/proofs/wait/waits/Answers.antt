use Rattle.std.proofs.Common.{Some, sym, ◌∙◌, ap, map, option_map}
use Rattle.ccr_pipeline.specs.Inputs.{input_data}
use Rattle.ccr_overview.specs.PageData.{word_data}
use Rattle.ccr_overview.specs.Scenes.{scene_data}
use Rattle.ccr_overview.specs.Waits.{wait_of, waits}
use Rattle.ccr_overview.proofs.Firsts.{first_here, first_on}
use Rattle.ccr_overview.proofs.wait.waits.Goals as goal

pub returns-in-Some : goal.returns-in-Some
returns-in-Some c =
    let f = wait_of (scene_data c.args.scene.now) c.args.words.now in
    first_here f input_data c.args.inputs.now c.loop-input.input-index c.input-item.result
    (waits (scene_data c.args.scene.now) c.args.words.now (map input_data c.args.inputs.now))
    c.loop-input-test.true (sym c.input-item.is) c.loop-input.invariant (map word_data c.in-Some.found.items)
    (sym (ap (option_map (λ ws. map word_data ws.items)) c.in-Some.is) ∙ c.in_ok-told.ensures)

pub loop-input-preserved : goal.loop-input-preserved
loop-input-preserved c =
    let f = wait_of (scene_data c.args.scene.now) c.args.words.now in
    first_on f input_data c.args.inputs.now c.loop-input.input-index c.input-item.result
    (waits (scene_data c.args.scene.now) c.args.words.now (map input_data c.args.inputs.now))
    c.loop-input-test.true (sym c.input-item.is) c.loop-input.invariant
    (sym (ap (option_map (λ ws. map word_data ws.items)) c.in-None.is) ∙ c.in_ok-told.ensures)
