use Rattle.std.proofs.Common.{◌∙◌, ◌==◌, ℕ, List, Bool, ap}
use Rattle.std.specs.List.{list_any}
use Rattle.ccr_explain.proofs.Steps.{same_test}
use Rattle.ccr_lines.proofs.reason.is_allowed.Goals as goal

pub returns : goal.returns
returns c =
    let test : List ℕ → Bool = λ places. list_any (λ x. x == c.args.place) places in
    same_test c.has_place.result c.args.place c.places.result.now c.has_place.ensures ∙ ap test c.places.ensures
    ∙ ap (λ x. test x.places) c.input.ensures.value
