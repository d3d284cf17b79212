use Rattle.std.proofs.Common.{List, sym, subst}
use Rattle.std.specs.Prelude.{All}
use Rattle.ccr_choice.specs.Problem.{InputValue}
use Rattle.ccr_explain.specs.declared.demand.Demand.{Demand}
use Rattle.ccr_explain.specs.Demand.{IsDemandOf}
use Rattle.ccr_explain.proofs.Steps.{none_met}
use Rattle.ccr_explain.proofs.grown.few_demands.Goals as goal

pub returns-in-No : goal.returns-in-No
returns-in-No c =
    let p = c.args.problem.now in
    let P : List InputValue → Type 0 = λ xs. All (IsDemandOf (record { inputs = xs; jobs = p.jobs })) c.in_ok-demands.demands.items in
    none_met p c.in_ok-demands.demands.items c.deref.result.now c.args.budget c.in_ok-are_met.field-0 (subst P c.inputs-inputs.ensures.value (c.in_ok-demands.ensures p.jobs)) c.deref.ensures.value c.in_ok-are_met.ensures c.in-No.is

pub are_met-requires-clause-demands : goal.are_met-requires-clause-demands
are_met-requires-clause-demands c =
    let p = c.args.problem.now in
    let P : List InputValue → Type 0 = λ xs. All (IsDemandOf (record { inputs = xs; jobs = p.jobs })) c.in_ok-demands.demands.items in
    let Q : List Demand → Type 0 = λ ds. All (IsDemandOf p) ds in
    subst Q (sym c.deref.ensures.value) (subst P c.inputs-inputs.ensures.value (c.in_ok-demands.ensures p.jobs))
