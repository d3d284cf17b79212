use Rattle.std.proofs.Common.{◌≡◌, ◌++◌, drop, map}
use Rattle.ccr_pipeline.specs.Inputs.{input_data}
use Rattle.std.specs.Prelude.{filter}
use Rattle.ccr_overview.proofs.sentence.triggers.Given as goal

abbrev pub invariant-loop-input : goal.invariant-loop-input
invariant-loop-input l =
    map (λ i. input_data i.now) l.all.items ++ filter (λ i. i.trigger) (map input_data (drop l.input-index l.inputs)) ≡ filter (λ i. i.trigger) (map input_data l.inputs)
