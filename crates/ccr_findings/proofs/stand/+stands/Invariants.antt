use Rattle.std.proofs.Common.{◌≡◌}
use Rattle.serde_json.specs.View.{items_view, members_view}
use Rattle.ccr_history.proofs.Items.{left}
use Rattle.ccr_findings.specs.Stands.{stand_in_items, stand_in_members}
use Rattle.ccr_findings.proofs.stand.+stands.Given as goal

abbrev pub invariant-stand_in_items-loop-i : goal.invariant-stand_in_items-loop-i
invariant-stand_in_items-loop-i l = stand_in_items l.path l.kind l.here l.i (left l.i l.list.items) ≡ stand_in_items l.path l.kind l.here 0 (items_view l.list.items)

abbrev pub invariant-stand_in_members-loop-key : goal.invariant-stand_in_members-loop-key
invariant-stand_in_members-loop-key l = stand_in_members l.path l.keys l.here (members_view l.key-iterator) ≡ stand_in_members l.path l.keys l.here (members_view l.members.entries)
