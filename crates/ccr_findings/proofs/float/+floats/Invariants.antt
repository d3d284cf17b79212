use Rattle.std.proofs.Common.{◌≡◌}
use Rattle.serde_json.specs.View.{items_view, members_view}
use Rattle.ccr_history.proofs.Items.{left}
use Rattle.ccr_findings.specs.Floats.{float_in_items, float_in_members}
use Rattle.ccr_findings.proofs.float.+floats.Given as goal

abbrev pub invariant-float_in_items-loop-i : goal.invariant-float_in_items-loop-i
invariant-float_in_items-loop-i l = float_in_items l.path l.i (left l.i l.list.items) ≡ float_in_items l.path 0 (items_view l.list.items)

abbrev pub invariant-float_in_members-loop-key : goal.invariant-float_in_members-loop-key
invariant-float_in_members-loop-key l = float_in_members l.path (members_view l.key-iterator) ≡ float_in_members l.path (members_view l.members.entries)
