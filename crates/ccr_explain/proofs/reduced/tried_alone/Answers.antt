use Rattle.std.proofs.Common.{◌∙◌, List, sym, ap, subst, arith}
use Rattle.std.specs.Prelude.{All}
use Rattle.ccr_explain.specs.declared.demand.Demand.{Demand}
use Rattle.ccr_explain.specs.Demand.{IsDemandOf}
use Rattle.ccr_explain.specs.Reduced.{ReductionValue, marked, IsReduced}
use Rattle.ccr_explain.proofs.Reducing.{alone_reduced, marked_demands, told_no}
use Rattle.ccr_explain.proofs.reduced.tried_alone.Goals as goal

pub are_met-requires-clause-demands : goal.are_met-requires-clause-demands
are_met-requires-clause-demands c =
    let p = c.args.problem.now in
    let now = c.reduction.inside in
    let P : ReductionValue → Type 0 = λ x. IsReduced p c.args.budget x in
    let so = subst P (sym c.reduction.view_is) c.requires.reduced in
    let are = c.in_ok-alone.ensures ∙ ap (λ ds. marked ds c.deref-2.result.now) c.deref.ensures.value ∙ ap (marked now.demands.items) c.deref-2.ensures.value in
    let Q : List Demand → Type 0 = λ ds. All (IsDemandOf p) ds in
    subst Q (sym (c.deref-3.ensures.value ∙ are)) (marked_demands p now.demands.items now.is_needed.items so.clash.demands)

pub returns-in_ok-is_needed-in-No-clause-reduced : goal.returns-in_ok-is_needed-in-No-clause-reduced
returns-in_ok-is_needed-in-No-clause-reduced c =
    let p = c.args.problem.now in
    let now = c.reduction.inside in
    let r : ReductionValue = record { demands = now.demands.items; is_needed = now.is_needed.items; next = now.next; is_irreducible = now.is_irreducible } in
    let P : ReductionValue → Type 0 = λ x. IsReduced p c.args.budget x in
    let so : IsReduced p c.args.budget r = subst P (sym c.reduction.view_is) c.requires.reduced in
    let are = c.in_ok-alone.ensures ∙ ap (λ ds. marked ds c.deref-2.result.now) c.deref.ensures.value ∙ ap (marked now.demands.items) c.deref-2.ensures.value in
    alone_reduced p c.args.budget r c.in_ok-alone.alone.items c.in_ok-is_needed-in-No.is_needed.items c.len-count.result so are
    (told_no p c.args.budget c.in_ok-alone.alone.items c.deref-3.result.now c.in_ok-are_met.field-0 c.deref-3.ensures.value c.in_ok-are_met.ensures c.in-No.is)
    (omega (arith, c.in_ok-is_needed-in-No.ensures.len, c.len-count.ensures))
