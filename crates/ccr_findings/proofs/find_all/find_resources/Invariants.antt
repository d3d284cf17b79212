use Rattle.std.proofs.Common.{◌≡◌, ◌++◌, [], codes}
use Rattle.serde_json.specs.View.{items_view}
use Rattle.ccr_history.proofs.Items.{left}
use Rattle.ccr_pipeline.specs.JobRules.{resource_faults, members}
use Rattle.ccr_findings.proofs.find_all.find_resources.Given as goal

abbrev pub invariant-loop-i : goal.invariant-loop-i
invariant-loop-i l = l.out ++ members resource_faults l.names (codes "resources") l.i (left l.i l.list) ≡ l.initial.out ++ members resource_faults [] (codes "resources") 0 (items_view l.list)
