use Rattle.std.proofs.Common.{◌≡◌, [], map, drop, string_bytes}
use Rattle.ccr_pipeline.specs.Inputs.{input_data, named_jobs}
use Rattle.ccr_lines.proofs.past.named_jobs.Given as goal

abbrev pub invariant-loop-input : goal.invariant-loop-input
invariant-loop-input l =
    named_jobs (map string_bytes l.names.items) (map input_data (drop l.input-index l.inputs))
    ≡ named_jobs [] (map input_data l.inputs)
