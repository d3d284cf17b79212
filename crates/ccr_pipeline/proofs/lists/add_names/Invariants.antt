use Rattle.std.proofs.Common.{◌≡◌}
use Rattle.serde_json.specs.View.{items_view}
use Rattle.ccr_history.proofs.Items.{left}
use Rattle.ccr_pipeline.specs.JobRules.{names_in}
use Rattle.ccr_pipeline.specs.Names.{with_names}
use Rattle.ccr_pipeline.proofs.lists.add_names.Given as goal

abbrev pub invariant-loop-member : goal.invariant-loop-member
invariant-loop-member l = with_names l.names (names_in (left l.member-index l.list)) ≡ with_names l.initial.names (names_in (items_view l.list))
