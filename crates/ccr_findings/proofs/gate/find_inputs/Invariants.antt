use Rattle.std.proofs.Common.{◌≡◌, ◌++◌, drop, map}
use Rattle.ccr_pipeline.specs.Inputs.{input_data}
use Rattle.ccr_findings.specs.Findings.{findings_data}
use Rattle.ccr_findings.specs.Gates.{gates_of}
use Rattle.ccr_findings.proofs.gate.find_inputs.Given as goal

abbrev pub invariant-loop-input : goal.invariant-loop-input
invariant-loop-input l = findings_data l.out.items ++ gates_of l.job (map input_data (drop l.input-index l.inputs)) ≡ findings_data l.initial.out.items ++ gates_of l.job (map input_data l.inputs)
