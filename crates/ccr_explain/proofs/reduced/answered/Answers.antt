use Rattle.std.proofs.Common.{◌∙◌, ◌<◌, List, length, refl, sym, ap, subst}
use Rattle.std.specs.Prelude.{remove}
use Rattle.ccr_explain.specs.declared.demand.Demand.{Demand}
use Rattle.ccr_explain.specs.Cut.{IsMet}
use Rattle.ccr_explain.specs.Reduced.{ReductionValue, AreNeeded, IsReduced}
use Rattle.ccr_explain.proofs.Reducing.{others_are, stays_out, is_kept, is_open, told_no, told_yes, told_over, same_parts}
use Rattle.ccr_explain.proofs.reduced.answered.Goals.{in-No, in-Yes+in_ok-mark_needed-in-Yes, in-OverBudget}
use Rattle.ccr_explain.proofs.reduced.answered.Goals as goal

pub returns-clause-reduced : goal.returns-clause-reduced
returns-clause-reduced c =
    let p = c.args.problem.now in
    let budget = c.args.budget in
    let now = c.reduction.inside in
    let k = now.next in
    let others = remove now.demands.items k in
    let r : ReductionValue = record { demands = now.demands.items; is_needed = now.is_needed.items; next = k; is_irreducible = now.is_irreducible } in
    let P : ReductionValue → Type 0 = λ x. IsReduced p budget x in
    let W : ReductionValue → Type 0 = λ x. x.next < length x.demands in
    let M : ReductionValue → Type 0 = λ x. IsMet p (remove x.demands x.next) budget c.args.met in
    let so : IsReduced p budget r = subst P (sym c.reduction.view_is) c.requires.reduced in
    let inside : W r = subst W (sym c.reduction.view_is) c.requires.within in
    let told : M r = subst M (sym c.reduction.view_is) c.requires.met in
    let end = c.match-met in
    elim c.match-met.branch [
      | in-No w ↦
          same_parts p budget _ end.demands.items end.is_needed.items end.after end.is_irreducible (stays_out p budget r so inside (told_no p budget others others c.args.met refl told w.in-No.is))
          (ap (λ v. v.items) w.demands-is ∙ w.remove.ensures.items) (ap (λ v. v.items) w.is_needed-is ∙ w.remove-in-No.ensures.items) w.after-is w.is_irreducible-is
      | in-Yes+in_ok-mark_needed-in-Yes w ↦ (let marks = w.mark_needed.new.is_needed.items in
          let N : List Demand → Type 0 = λ ds. AreNeeded p ds now.is_needed.items → AreNeeded p ds marks in
          same_parts p budget _ end.demands.items end.is_needed.items end.after end.is_irreducible
          (is_kept p budget r so inside (told_yes p budget others others c.args.met w.in-Yes.choice refl told w.in-Yes.is) marks w.in_ok-mark_needed-in-Yes.ensures.length
          (subst N w.deref.ensures.value w.in_ok-mark_needed-in-Yes.ensures.needed))
          (ap (λ v. v.items) w.demands-is) (ap (λ v. v.items) w.is_needed-is) w.after-is w.is_irreducible-is)
      | in-OverBudget w ↦
          same_parts p budget _ end.demands.items end.is_needed.items end.after end.is_irreducible (is_open p budget r so inside (told_over p budget others c.args.met (others_are p budget r so inside) told w.in-OverBudget.is))
          (ap (λ v. v.items) w.demands-is) (ap (λ v. v.items) w.is_needed-is) w.after-is w.is_irreducible-is
    ]
