use Rattle.std.proofs.Common.{◌≡◌, ◌++◌, map, drop}
use Rattle.ccr_pipeline.specs.Inputs.{input_data}
use Rattle.ccr_pipeline.specs.Pipelines.{pipeline_data}
use Rattle.ccr_problem.specs.Follows.{new_places}
use Rattle.ccr_problem.proofs.coming.new_places.Given as goal

abbrev pub invariant-loop-input : goal.invariant-loop-input
invariant-loop-input l =
    map (λ x. x.items) l.places.items ++ map (new_places (pipeline_data l.pipeline) l.history l.report.scope l.report.first l.report.versions.items) (map input_data (drop l.input-index l.input-items))
    ≡ map (new_places (pipeline_data l.pipeline) l.history l.report.scope l.report.first l.report.versions.items) (map input_data l.input-items)
