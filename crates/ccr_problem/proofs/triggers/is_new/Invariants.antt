use Rattle.std.proofs.Common.{◌≡◌, map}
use Rattle.std.specs.Iterator.Adapters.{zip_first, zip_second}
use Rattle.std.specs.Slice.Iter.{iter_rest}
use Rattle.ccr_pipeline.specs.Inputs.{input_data}
use Rattle.ccr_problem.specs.Triggers.{is_new}
use Rattle.ccr_problem.proofs.triggers.is_new.Given as goal

abbrev pub invariant-loop-input : goal.invariant-loop-input
invariant-loop-input l =
    is_new l.job l.history.builds (map input_data (iter_rest (zip_first l.input-iterator))) (iter_rest (zip_second l.input-iterator))
    ≡ is_new l.job l.history.builds (map input_data l.inputs) l.fn.used
