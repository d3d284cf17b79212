use Rattle.std.proofs.Common.{ap, ◌∙◌}
use Rattle.ccr_choice.specs.Problem.{are_places_after}
use Rattle.ccr_choice.proofs.Lookups.{places_rise}
use Rattle.ccr_choice.proofs.Places.{input_is, places_kept}
use Rattle.ccr_choice.proofs.possible.top_allowed.Goals as goal

pub top_place-requires : goal.top_place-requires
top_place-requires c =
    let p = c.args.problem.now in
    let same = input_is p c.inputs-inputs.result.now c.args.input c.index-inputs-input-2.result c.inputs-inputs.ensures.value c.requires c.index-inputs-input-2.is in
    places_rise c.places.result.now 0 (ap (are_places_after 0) (c.places.ensures ∙ ap (λ x. x.places) same) ∙ places_kept p c.args.input c.inputs-inputs.ensures.kept c.requires)
