use Rattle.std.proofs.Common.{◌≡◌, ◌++◌, drop, map}
use Rattle.ccr_overview.specs.Abouts.{input_words}
use Rattle.ccr_overview.specs.Each.{each_from}
use Rattle.ccr_overview.specs.PageData.{word_data}
use Rattle.ccr_overview.specs.Scenes.{scene_data}
use Rattle.ccr_pipeline.specs.Inputs.{input_data}
use Rattle.ccr_overview.proofs.about.push_each_input.Given as goal

abbrev pub invariant-loop-k : goal.invariant-loop-k
invariant-loop-k l =
    map word_data l.out.items ++ each_from (input_words (scene_data l.scene)) l.k (map input_data (drop l.k l.inputs)) ≡ map word_data l.fn.out.items ++ each_from (input_words (scene_data l.scene)) 0 (map input_data l.inputs)
