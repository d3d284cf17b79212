use Rattle.std.proofs.Common.{refl, subst}
use Rattle.ccr_resolve.specs.declared.chosen.Chosen.TheVariants.{Nothing}
use Rattle.ccr_explain.specs.declared.cut.Cut.{Cut}
use Rattle.ccr_explain.specs.Cut.{IsCut, IsEmptied}
use Rattle.ccr_explain.proofs.CutLaws.{chosen_tells}
use Rattle.ccr_explain.proofs.met.are_met.Goals as goal

pub returns-in-Emptied : goal.returns-in-Emptied
returns-in-Emptied c =
    let p = c.args.problem.now in
    let ds = c.args.demands.now in
    let P : Cut → Type 0 = IsCut ds p in
    let emptied : IsEmptied ds p = subst P c.in-Emptied.is c.in_ok-cut.ensures in
    chosen_tells ds p c.requires.demands c.args.budget Nothing Nothing (record { cut = emptied.cut; is_cut = emptied.is_cut; chosen = emptied.none }) refl
