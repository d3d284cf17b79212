use Rattle.std.proofs.Common.{◌≡◌, ◌++◌, map, drop}
use Rattle.ccr_lines.specs.Objects.{field_text, members_text, object_text}
use Rattle.ccr_lines.proofs.object.push_members.Given as goal

abbrev pub invariant-loop-name : goal.invariant-loop-name
invariant-loop-name l =
    l.out.items ++ members_text l.later (map (λ m. (m.0.now, field_text m.1)) (drop l.name-index l.members))
    ≡ l.fn.out.items ++ object_text (map (λ m. (m.0.now, field_text m.1)) l.members)
