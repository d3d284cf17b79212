use Rattle.std.proofs.Common.{◌≡◌, ◌++◌, map}
use Rattle.std.specs.Iterator.Adapters.{zip_first, zip_second}
use Rattle.std.specs.Slice.Iter.{iter_rest}
use Rattle.ccr_pipeline.specs.Inputs.{input_data}
use Rattle.ccr_pipeline.specs.Pipelines.{pipeline_data}
use Rattle.ccr_core.specs.Choices.{used_at}
use Rattle.ccr_core.proofs.used.used_at.Given as goal

abbrev pub invariant-loop-input : goal.invariant-loop-input
invariant-loop-input l =
    l.used.items
    ++ used_at (pipeline_data l.pipeline) l.history (map input_data (iter_rest (zip_first l.input-iterator))) (iter_rest (zip_second l.input-iterator))
    ≡ used_at (pipeline_data l.pipeline) l.history (map input_data l.inputs) l.places
