use Rattle.std.proofs.Common.{◌≡◌, drop, map}
use Rattle.ccr_pipeline.specs.Inputs.{input_data}
use Rattle.ccr_overview.specs.Scenes.{scene_data}
use Rattle.ccr_overview.specs.Waits.{waits}
use Rattle.ccr_overview.proofs.wait.waits.Given as goal

abbrev pub invariant-loop-input : goal.invariant-loop-input
invariant-loop-input l =
    waits (scene_data l.scene) l.words (map input_data (drop l.input-index l.inputs))
    ≡ waits (scene_data l.scene) l.words (map input_data l.inputs)
