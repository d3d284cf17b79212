use Rattle.std.proofs.Common.{◌≡◌, ◌∙◌, sym, true}
use Rattle.ccr_history.specs.Members.{has_member}
use Rattle.ccr_history.proofs.Members.{other_members}
use Rattle.ccr_history.proofs.key_text.has_members.Goals as goal

pub loop-member-preserved : goal.loop-member-preserved
loop-member-preserved c = λ fields wanted left begun.
    let before = c.loop-member.invariant fields wanted left begun in
    let there : has_member fields c.in-Some.member.now ≡ true = sym (c.has_member.ensures fields left) ∙ c.if-not-has_member.false in
    let next = other_members fields before.0 _ _ (c.in-Some.ensures.first before.0 before.1) there in
    (next.0, next.1, next.2 ∙ before.2)
