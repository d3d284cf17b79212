use Rattle.std.proofs.Common.{List, Bool, ap, sym, subst}
use Rattle.ccr_explain.proofs.Reducing.{GoesOn, goes_none, goes_both}
use Rattle.ccr_explain.proofs.witness.mark_needed.Goals.{in-Some-2+in_ok-mark-2, in_default-2, in-Some-3+in_ok-mark-3, in_default-3}
use Rattle.ccr_explain.proofs.witness.mark_needed.Goals as goal

pub loop-init : goal.loop-init
loop-init c = record { long = c.in_ok-mark.ensures.length; needed = c.in_ok-mark.ensures.needed }

pub loop-preserved : goal.loop-preserved
loop-preserved c =
    let p = c.args.problem.now in
    let ds = c.args.demands.now in
    let before = c.loop.is_needed.items in
    let middle = c.match-branch-3.is_needed.items in
    let after = c.match-branch-6.is_needed.items in
    let one : GoesOn p ds before middle = elim c.match-branch-3.branch [
      | in-Some-2+in_ok-mark-2 w ↦ (let P : List Bool → Type 0 = λ marks. GoesOn p ds before marks in
          subst P (sym (ap (λ v. v.items) w.is_needed-is)) (record { long = w.in_ok-mark-2.ensures.length; needed = w.in_ok-mark-2.ensures.needed }))
      | in_default-2 w ↦ goes_none p ds before middle (ap (λ v. v.items) w.is_needed-is)
    ] in
    let two : GoesOn p ds middle after = elim c.match-branch-6.branch [
      | in-Some-3+in_ok-mark-3 w ↦ (let P : List Bool → Type 0 = λ marks. GoesOn p ds middle marks in
          subst P (sym (ap (λ v. v.items) w.is_needed-is)) (record { long = w.in_ok-mark-3.ensures.length; needed = w.in_ok-mark-3.ensures.needed }))
      | in_default-3 w ↦ goes_none p ds middle after (ap (λ v. v.items) w.is_needed-is)
    ] in
    goes_both p ds c.args.is_needed.now.items before after c.loop.invariant (goes_both p ds before middle after one two)
