use Rattle.std.proofs.Common.{◌≡◌, map, drop}
use Rattle.std.specs.List.{list_all}
use Rattle.ccr_pipeline.specs.Inputs.{input_data}
use Rattle.ccr_lines.specs.BuildCertificates.{has_input}
use Rattle.ccr_lines.proofs.taken.took_no_other.Given as goal

abbrev pub invariant-loop-k : goal.invariant-loop-k
invariant-loop-k l =
    list_all (λ u. has_input (map input_data l.inputs) u.input) (drop l.k l.build.used)
    ≡ list_all (λ u. has_input (map input_data l.inputs) u.input) l.build.used
