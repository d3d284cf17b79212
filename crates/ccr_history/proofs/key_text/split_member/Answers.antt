use Rattle.std.proofs.Common.{◌≡◌, ◌≤◌, ◌-◌, ◌∙◌, ap, sym, drop, take, length, length-drop, get_or, arith, false}
use Rattle.std.proofs.Math.Seq.{take-length}
use Rattle.ccr_history.specs.Scan.{after_string}
use Rattle.ccr_history.proofs.Members.{split_is}
use Rattle.ccr_history.proofs.key_text.split_member.Goals as goal

pub returns-clause-first : goal.returns-clause-first
returns-clause-first c = λ fields left.
    let long : 2 ≤ length c.args.text.now = omega arith in
    let quote : get_or c.args.text.now 1 0 ≡ 34 = omega arith in
    let content : take (length c.args.text.now - 2) (drop 2 c.args.text.now) ≡ drop 2 c.args.text.now =
    ap (λ n. take n (drop 2 c.args.text.now)) (sym (length-drop 2 c.args.text.now)) ∙ take-length (drop 2 c.args.text.now) in
    let rest : c.after_string-rest.result.now ≡ after_string false (drop 2 (after_string false (drop 2 c.args.text.now))) =
    c.after_string-rest.ensures.after ∙ ap (after_string false) (c.skip.ensures.after ∙ ap (drop 2) (c.after_string.ensures.after ∙ ap (after_string false) content)) in
    rw c.skip-member.ensures.after (split_is fields c.args.text.now c.after_string-rest.result.now left long quote rest)
