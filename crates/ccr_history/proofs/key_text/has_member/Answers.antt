use Rattle.std.proofs.Common.{◌∙◌, sym}
use Rattle.ccr_history.proofs.Members.{other_member}
use Rattle.ccr_history.proofs.key_text.has_member.Goals as goal

pub loop-found-preserved : goal.loop-found-preserved
loop-found-preserved c = λ fields left.
    let before = c.loop-found.invariant fields left in
    let next = other_member before.0 _ _ c.args.member.now (c.in-Some.ensures.first before.0 before.1) (sym c.eq.ensures ∙ c.if-eq.false) in
    (next.0, next.1, next.2 ∙ before.2)
