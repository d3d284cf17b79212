use Rattle.std.proofs.Common.{◌≡◌, ◌++◌, drop, string_bytes}
use Rattle.ccr_findings.specs.Findings.{findings_data}
use Rattle.ccr_run.specs.Found.{wrong_text}
use Rattle.ccr_run.proofs.found.add_wrong.Given as goal

abbrev pub invariant-loop-finding : goal.invariant-loop-finding
invariant-loop-finding l = string_bytes l.text ++ wrong_text (findings_data (drop l.finding-index l.findings)) ≡ string_bytes l.initial.text ++ wrong_text (findings_data l.findings)
