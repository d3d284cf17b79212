use Rattle.std.proofs.Common.{List, ◌∙◌, refl, sym, ap, subst}
use Rattle.std.specs.Prelude.{All}
use Rattle.ccr_explain.specs.declared.demand.Demand.{Demand}
use Rattle.ccr_explain.specs.Demand.{IsDemandOf, demands_from}
use Rattle.ccr_explain.proofs.DemandLaws.{all_clash, demands_are, nothing_chosen}
use Rattle.ccr_explain.proofs.Steps.{none_met}
use Rattle.ccr_explain.proofs.clashes.explained_whole.Goals as goal

pub are_met-requires-clause-demands : goal.are_met-requires-clause-demands
are_met-requires-clause-demands c =
    let p = c.args.problem.now in
    let P : List Demand → Type 0 = λ ds. All (IsDemandOf p) ds in
    subst P (sym (c.deref.ensures.value ∙ c.in_ok-demands.ensures ∙ ap (demands_from 0) c.inputs.ensures.value)) (demands_are p)

pub reduced-requires-clause-clash : goal.reduced-requires-clause-clash
reduced-requires-clause-clash c =
    let p = c.args.problem.now in
    let P : List Demand → Type 0 = λ ds. All (IsDemandOf p) ds in
    none_met p c.in_ok-demands.demands.items c.deref.result.now c.args.budget c.in_ok-are_met.field-0 (subst P (sym (c.in_ok-demands.ensures ∙ ap (demands_from 0) c.inputs.ensures.value)) (demands_are p))
    c.deref.ensures.value c.in_ok-are_met.ensures c.in-No.is

pub reduced-requires-in-Nothing : goal.reduced-requires-in-Nothing
reduced-requires-in-Nothing c =
    let p = c.args.problem.now in
    record {
      clash = all_clash p c.in_ok-demands.demands.items c.inputs.ensures.kept (c.in_ok-demands.ensures ∙ ap (demands_from 0) c.inputs.ensures.value)
          (nothing_chosen p p c.args.budget c.in_ok-choice.field-0 refl c.in-Nothing.is c.in_ok-choice.ensures);
      least = c.requires.least;
      most = c.requires.most;
    }
