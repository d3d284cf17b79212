use Rattle.std.proofs.Common.{◌∙◌, List, sym, ap, subst}
use Rattle.std.specs.Prelude.{All}
use Rattle.ccr_explain.specs.declared.demand.Demand.{Demand}
use Rattle.ccr_explain.specs.Demand.{IsDemandOf, demands_from}
use Rattle.ccr_explain.specs.Reduced.{AreNeeded, marked}
use Rattle.ccr_explain.proofs.DemandLaws.{demands_are}
use Rattle.ccr_explain.proofs.Reducing.{marked_demands, needed_clash, told_no}
use Rattle.ccr_explain.proofs.reduced.clash_of_needed.Goals as goal

pub are_met-requires-clause-demands : goal.are_met-requires-clause-demands
are_met-requires-clause-demands c =
    let p = c.args.problem.now in
    let P : List Demand → Type 0 = λ ds. All (IsDemandOf p) ds in
    subst P (sym (c.deref-4.ensures.value ∙ c.in_ok-needed.ensures))
    (marked_demands p c.deref-2.result.now c.deref-3.result.now (subst P (sym (c.deref-2.ensures.value ∙ c.in_ok-demands.ensures ∙ ap (demands_from 0) c.inputs.ensures.value)) (demands_are p)))

pub returns-in-No : goal.returns-in-No
returns-in-No c =
    let p = c.args.problem.now in
    let ds = c.in_ok-demands.demands.items in
    let P : List Demand → Type 0 = λ xs. All (IsDemandOf p) xs in
    let N : List Demand → Type 0 = λ xs. AreNeeded p xs c.in_ok-is_needed.is_needed.items in
    needed_clash p c.args.budget ds c.in_ok-is_needed.is_needed.items c.in_ok-needed.needed.items
    (subst P (sym (c.in_ok-demands.ensures ∙ ap (demands_from 0) c.inputs.ensures.value)) (demands_are p))
    (subst N c.deref.ensures.value c.in_ok-is_needed.ensures.needed)
    (c.in_ok-needed.ensures ∙ ap (λ xs. marked xs c.deref-3.result.now) c.deref-2.ensures.value ∙ ap (marked ds) c.deref-3.ensures.value)
    (told_no p c.args.budget c.in_ok-needed.needed.items c.deref-4.result.now c.in_ok-are_met.field-0 c.deref-4.ensures.value c.in_ok-are_met.ensures c.in-No.is)
