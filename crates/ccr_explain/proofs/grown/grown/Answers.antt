use Rattle.std.proofs.Common.{List, Vec, Global, subst, sym}
use Rattle.std.specs.Prelude.{Option, IfSome, All}
use Rattle.ccr_choice.specs.Problem.{InputValue}
use Rattle.ccr_explain.specs.declared.demand.Demand.{Demand}
use Rattle.ccr_explain.specs.Demand.{IsDemandOf}
use Rattle.ccr_explain.specs.Clash.{IsClash}
use Rattle.ccr_explain.proofs.Steps.{none_met}
use Rattle.ccr_explain.proofs.grown.grown.Goals.{then-count-few+in_ok-demands+in_ok-are_met+in-No, then-count-few+in_ok-demands+in_ok-are_met+in_default, else-count-few}
use Rattle.ccr_explain.proofs.grown.grown.Goals as goal

pub loop-preserved : goal.loop-preserved
loop-preserved c =
    let p = c.args.problem.now in
    let P : Option (Vec Demand Global) → Type 0 = λ x. IfSome x (λ ds. IsClash p ds.items) in
    elim c.if-count-few.branch [
      | then-count-few+in_ok-demands+in_ok-are_met+in-No w ↦ (let Q : List InputValue → Type 0 = λ xs. All (IsDemandOf (record { inputs = xs; jobs = p.jobs })) w.in_ok-demands.demands.items in
          subst P (sym w.found-is)
          (none_met p w.in_ok-demands.demands.items w.deref-then-count-few.result.now c.args.budget w.in_ok-are_met.field-0 (subst Q c.inputs-inputs.ensures.value (w.in_ok-demands.ensures p.jobs))
          w.deref-then-count-few.ensures.value w.in_ok-are_met.ensures w.in-No.is))
      | then-count-few+in_ok-demands+in_ok-are_met+in_default w ↦ subst P (sym w.found-is) c.loop.invariant
      | else-count-few w ↦ subst P (sym w.found-is) c.loop.invariant
    ]

pub are_met-requires-clause-demands : goal.are_met-requires-clause-demands
are_met-requires-clause-demands c =
    let p = c.args.problem.now in
    let P : List InputValue → Type 0 = λ xs. All (IsDemandOf (record { inputs = xs; jobs = p.jobs })) c.in_ok-demands.demands.items in
    let Q : List Demand → Type 0 = λ ds. All (IsDemandOf p) ds in
    subst Q (sym c.deref-then-count-few.ensures.value) (subst P c.inputs-inputs.ensures.value (c.in_ok-demands.ensures p.jobs))
