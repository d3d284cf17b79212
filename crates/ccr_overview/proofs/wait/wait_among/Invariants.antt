use Rattle.std.proofs.Common.{◌≡◌, drop, map, string_bytes}
use Rattle.ccr_pipeline.specs.Inputs.{input_data}
use Rattle.ccr_overview.specs.Scenes.{scene_data}
use Rattle.ccr_overview.specs.Waits.{wait_among}
use Rattle.ccr_overview.proofs.wait.wait_among.Given as goal

abbrev pub invariant-loop-job : goal.invariant-loop-job
invariant-loop-job l =
    wait_among (scene_data l.scene) l.words (input_data l.input) (map string_bytes (drop l.job-index l.jobs))
    ≡ wait_among (scene_data l.scene) l.words (input_data l.input) (map string_bytes l.jobs)
