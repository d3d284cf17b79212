use Rattle.std.proofs.Common.{◌≡◌, ◌++◌}
use Rattle.serde_json.specs.View.{members_view}
use Rattle.ccr_findings.specs.Findings.{findings_data}
use Rattle.ccr_findings.specs.Objects.{params_findings}
use Rattle.ccr_findings.proofs.keys.find_strayed.Given as goal

abbrev pub invariant-loop-key : goal.invariant-loop-key
invariant-loop-key l = findings_data l.out.items ++ params_findings l.path (members_view l.key-iterator) ≡ findings_data l.initial.out.items ++ params_findings l.path (members_view l.members.entries)
