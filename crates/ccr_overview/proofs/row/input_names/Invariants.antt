use Rattle.std.proofs.Common.{◌≡◌, map, string_bytes, take}
use Rattle.ccr_pipeline.specs.Inputs.{input_data}
use Rattle.ccr_overview.proofs.row.input_names.Given as goal

abbrev pub invariant-loop-input : goal.invariant-loop-input
invariant-loop-input l =
    map string_bytes l.names.items ≡ map (λ i. i.name) (map input_data (take l.input-index l.inputs))
