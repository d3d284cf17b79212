use Rattle.std.proofs.Common.{◌≡◌, ◌++◌}
use Rattle.serde_json.specs.View.{items_view}
use Rattle.ccr_history.proofs.Items.{left}
use Rattle.ccr_pipeline.specs.JobRules.{names_in}
use Rattle.ccr_findings.proofs.find_all.names_in.Given as goal

abbrev pub invariant-loop-member : goal.invariant-loop-member
invariant-loop-member l = l.names ++ names_in (left l.member-index l.list) ≡ names_in (items_view l.list)
