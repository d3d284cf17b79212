use Rattle.std.proofs.Common.{◌≡◌, ◌++◌}
use Rattle.serde_json.specs.View.{items_view, members_view}
use Rattle.ccr_history.proofs.Items.{left}
use Rattle.ccr_findings.specs.Findings.{findings_data}
use Rattle.ccr_findings.specs.Objects.{aim_data, found_in_items, found_in_members}
use Rattle.ccr_findings.proofs.objects.+objects.Given as goal

abbrev pub invariant-find_in_items-loop-i : goal.invariant-find_in_items-loop-i
invariant-find_in_items-loop-i l = findings_data l.out.items ++ found_in_items (aim_data l.aim) l.kind l.path l.i (left l.i l.list.items) ≡ findings_data l.initial.out.items ++ found_in_items (aim_data l.aim) l.kind l.path 0 (items_view l.list.items)

abbrev pub invariant-find_in_members-loop-key : goal.invariant-find_in_members-loop-key
invariant-find_in_members-loop-key l = findings_data l.out.items ++ found_in_members (aim_data l.aim) l.keys l.path (members_view l.key-iterator) ≡ findings_data l.initial.out.items ++ found_in_members (aim_data l.aim) l.keys l.path (members_view l.members.entries)
