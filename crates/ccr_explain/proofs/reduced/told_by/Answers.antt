use Rattle.std.proofs.Common.{List, sym, subst}
use Rattle.ccr_explain.specs.declared.demand.Demand.{Demand}
use Rattle.ccr_explain.specs.Reduced.{ReductionValue, AreNeeded, IsReduced}
use Rattle.ccr_explain.proofs.Reducing.{more_known}
use Rattle.ccr_explain.proofs.reduced.told_by.Goals as goal

pub returns-clause-reduced : goal.returns-clause-reduced
returns-clause-reduced c =
    let p = c.args.problem.now in
    let now = c.reduction.inside in
    let r : ReductionValue = record { demands = now.demands.items; is_needed = now.is_needed.items; next = now.next; is_irreducible = now.is_irreducible } in
    let P : ReductionValue → Type 0 = λ x. IsReduced p c.args.budget x in
    let so : IsReduced p c.args.budget r = subst P (sym c.reduction.view_is) c.requires.reduced in
    let marks = c.mark_needed.new.is_needed.items in
    let N : List Demand → Type 0 = λ ds. AreNeeded p ds now.is_needed.items → AreNeeded p ds marks in
    more_known p c.args.budget r marks so c.in_ok-mark_needed.ensures.length (subst N c.deref.ensures.value c.in_ok-mark_needed.ensures.needed)
