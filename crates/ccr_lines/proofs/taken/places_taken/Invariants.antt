use Rattle.std.proofs.Common.{◌≡◌, map, take, Some}
use Rattle.ccr_pipeline.specs.Inputs.{input_data}
use Rattle.ccr_pipeline.specs.Pipelines.{pipeline_data}
use Rattle.ccr_lines.specs.BuildCertificates.{place_for}
use Rattle.ccr_lines.proofs.taken.places_taken.Given as goal

abbrev pub invariant-loop-input : goal.invariant-loop-input
invariant-loop-input l =
    map Some l.places.items
    ≡ map (place_for (pipeline_data l.pipeline) l.history l.build.used) (map input_data (take l.input-index l.inputs))
