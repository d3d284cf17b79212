use Rattle.std.proofs.Common.{◌≡◌, ◌++◌, drop, map}
use Rattle.ccr_pipeline.specs.Tree.{input_data}
use Rattle.ccr_findings.specs.Absent.{given_data, absent_of}
use Rattle.ccr_findings.specs.Findings.{findings_data}
use Rattle.ccr_findings.proofs.absent.find_inputs.Given as goal

abbrev pub invariant-loop-input : goal.invariant-loop-input
invariant-loop-input l = findings_data l.out.items ++ absent_of l.job l.task (given_data l.given) (map input_data (drop l.input-index l.inputs)) ≡ findings_data l.initial.out.items ++ absent_of l.job l.task (given_data l.given) (map input_data l.inputs)
