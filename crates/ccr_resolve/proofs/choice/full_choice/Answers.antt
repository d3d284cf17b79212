use Rattle.std.proofs.Common.{◌≡◌, ◌≤◌, ◌∙◌, ℕ, List, length, take, ap, sym, subst, arith}
use Rattle.ccr_choice.specs.Preference.{order_of}
use Rattle.ccr_choice.specs.Possible.{AreBestPlaces}
use Rattle.ccr_choice.specs.Table.{assigned}
use Rattle.ccr_resolve.proofs.UpperLaws.{are_upper}
use Rattle.ccr_resolve.proofs.choice.full_choice.Goals as goal

pub returns : goal.returns
returns c =
    let p = c.args.index.now.problem in
    let a = assigned p c.args.fixed.now in
    let upper = c.args.upper.now in
    let P : List ℕ → Type 0 = λ xs. AreBestPlaces (order_of p) p a xs in
    let same : c.in_ok-places.places.items ≡ take (length p.inputs) upper = c.in_ok-places.ensures.items ∙ ap (λ n. take n upper) c.input_count.ensures.value in
    let wide : length p.inputs ≤ length upper = omega (arith, c.input_count.ensures.few, c.input_count.ensures.value, c.told-upper) in
    (subst P (sym same) (are_upper p a upper c.requires wide), c.in_ok-builds.ensures)
