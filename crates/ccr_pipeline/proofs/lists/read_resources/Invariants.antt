use Rattle.std.proofs.Common.{◌≡◌, ◌++◌, map, codes}
use Rattle.serde_json.specs.View.{items_view}
use Rattle.ccr_history.proofs.Items.{left}
use Rattle.ccr_pipeline.specs.JobData.{resource_data}
use Rattle.ccr_pipeline.specs.JobRules.{resource_faults, members, names_in}
use Rattle.ccr_pipeline.specs.Pipelines.{resources_in}
use Rattle.ccr_pipeline.proofs.lists.read_resources.Given as goal

abbrev pub invariant-loop-i : goal.invariant-loop-i
invariant-loop-i l = record {
  checked : members resource_faults l.initial.names (codes "resources") 0 (items_view l.list) ≡ members resource_faults l.names (codes "resources") l.i (left l.i l.list);
  read : map resource_data l.resources.items ++ resources_in (left l.i l.list) ≡ resources_in (items_view l.list);
  named : l.names ++ names_in (left l.i l.list) ≡ l.initial.names ++ names_in (items_view l.list);
}
