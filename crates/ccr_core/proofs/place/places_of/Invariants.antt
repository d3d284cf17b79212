use Rattle.std.proofs.Common.{◌≡◌, ◌++◌, map, drop}
use Rattle.ccr_pipeline.specs.Pipelines.{pipeline_data}
use Rattle.ccr_steps.specs.Gains.{moved_data}
use Rattle.ccr_core.specs.Seen.{pairs_of}
use Rattle.ccr_core.proofs.place.places_of.Given as goal

abbrev pub invariant-loop-one : goal.invariant-loop-one
invariant-loop-one l =
    l.places.items ++ pairs_of (pipeline_data l.pipeline) l.history (map moved_data (drop l.one-index l.moved)) ≡ pairs_of (pipeline_data l.pipeline) l.history (map moved_data l.moved)
