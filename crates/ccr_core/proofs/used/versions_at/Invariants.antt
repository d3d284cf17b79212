use Rattle.std.proofs.Common.{◌≡◌, ◌++◌, map}
use Rattle.std.specs.Iterator.Adapters.{zip_first, zip_second}
use Rattle.std.specs.Slice.Iter.{iter_rest}
use Rattle.ccr_pipeline.specs.Inputs.{input_data}
use Rattle.ccr_pipeline.specs.Pipelines.{pipeline_data}
use Rattle.ccr_core.specs.Choices.{versions_at}
use Rattle.ccr_core.proofs.used.versions_at.Given as goal

abbrev pub invariant-loop-input : goal.invariant-loop-input
invariant-loop-input l =
    l.versions.items
    ++ versions_at (pipeline_data l.pipeline) l.history (map input_data (iter_rest (zip_first l.input-iterator))) (iter_rest (zip_second l.input-iterator))
    ≡ versions_at (pipeline_data l.pipeline) l.history (map input_data l.inputs) l.places
