use Rattle.std.proofs.Common.{◌≡◌, ◌++◌, map}
use Rattle.serde_json.specs.View.{items_view}
use Rattle.ccr_history.proofs.Items.{left}
use Rattle.ccr_pipeline.specs.JobData.{job_data}
use Rattle.ccr_findings.specs.Findings.{findings_data}
use Rattle.ccr_findings.specs.Objects.{never_in}
use Rattle.ccr_findings.proofs.never.find_in_passed.Given as goal

abbrev pub invariant-loop-i : goal.invariant-loop-i
invariant-loop-i l = findings_data l.out.items ++ never_in (map job_data l.jobs) l.resource l.path l.i (left l.i l.list) ≡ findings_data l.initial.out.items ++ never_in (map job_data l.jobs) l.resource l.path 0 (items_view l.list)
