use Rattle.std.proofs.Common.{◌≡◌, ◌++◌}
use Rattle.serde_json.specs.View.{items_view, members_view}
use Rattle.ccr_history.proofs.Items.{left}
use Rattle.ccr_findings.specs.Findings.{findings_data}
use Rattle.ccr_findings.specs.Vars.{vars_in_items, vars_in_members}
use Rattle.ccr_findings.proofs.vars.+vars.Given as goal

abbrev pub invariant-find_in_items-loop-i : goal.invariant-find_in_items-loop-i
invariant-find_in_items-loop-i l = findings_data l.out.items ++ vars_in_items l.path l.i (left l.i l.list.items) ≡ findings_data l.initial.out.items ++ vars_in_items l.path 0 (items_view l.list.items)

abbrev pub invariant-find_in_members-loop-key : goal.invariant-find_in_members-loop-key
invariant-find_in_members-loop-key l = findings_data l.out.items ++ vars_in_members l.path (members_view l.key-iterator) ≡ findings_data l.initial.out.items ++ vars_in_members l.path (members_view l.members.entries)
