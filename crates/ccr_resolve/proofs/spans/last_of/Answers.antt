use Rattle.std.proofs.Common.{◌≡◌, ◌<◌, ◌-◌, length, slice_index, inl, inr, ap, ◌∙◌, arith}
use Rattle.std.proofs.lemmas.Bool.{cases_lt, ltb-true}
use Rattle.std.proofs.lemmas.List.{get_or_default}
use Rattle.ccr_resolve.proofs.spans.last_of.Goals as goal

pub returns : goal.returns
returns c = λ place h.
    let xs = c.args.places.now in
    let k = h.0 in
    let within : k < length xs = h.1 in
    let end = length xs - 1 in
    let here : slice_index xs k ≡ place = get_or_default xs k 0 place within ∙ h.2 in
    elim (cases_lt k end) [
      | inl less ↦ (let more = ltb-true _ _ (c.requires k end 0 less (omega arith)) in omega (arith, more, here))
      | inr le ↦ (let now : k ≡ end = omega arith in omega (arith, here, ap (slice_index xs) now))
    ]
