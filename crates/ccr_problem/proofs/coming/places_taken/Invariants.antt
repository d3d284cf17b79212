use Rattle.std.proofs.Common.{◌≡◌, ◌++◌, map, drop}
use Rattle.ccr_pipeline.specs.Inputs.{input_data}
use Rattle.ccr_pipeline.specs.Pipelines.{pipeline_data}
use Rattle.ccr_problem.specs.Follows.{place_taken}
use Rattle.ccr_problem.proofs.coming.places_taken.Given as goal

abbrev pub invariant-loop-input : goal.invariant-loop-input
invariant-loop-input l =
    l.places.items ++ map (place_taken (pipeline_data l.pipeline) l.history l.used) (map input_data (drop l.input-index l.input-items))
    ≡ map (place_taken (pipeline_data l.pipeline) l.history l.used) (map input_data l.input-items)
