use Rattle.std.proofs.Common.{ℕ, List, ◌∙◌, subst}
use Rattle.ccr_layout.specs.Places.{ArePlaced}
use Rattle.ccr_layout.proofs.StepLaws.{heights_low}
use Rattle.ccr_layout.proofs.sweep.placed_in.Goals as goal

pub place-requires-clause-low : goal.place-requires-clause-low
place-requires-clause-low c =
    heights_low 710 c.args.spans.now c.args.column c.as_slice-heights.result.now (c.as_slice-heights.ensures.value ∙ c.in_ok-heights.ensures) c.requires.low

pub returns : goal.returns
returns c =
    let P : List ℕ → Type 0 = λ hs. ArePlaced c.args.order.now hs c.in_ok-placed.placed.items in
    subst P (c.as_slice-heights.ensures.value ∙ c.in_ok-heights.ensures) c.in_ok-placed.ensures
