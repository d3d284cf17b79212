use Rattle.std.proofs.Common.{◌∙◌, slice_index, sym, subst}
use Rattle.std.proofs.lemmas.Bool.{false≢true}
use Rattle.ccr_choice.specs.Preference.{order_of}
use Rattle.ccr_choice.specs.Assignment.{Assignment}
use Rattle.ccr_choice.specs.Possible.{IsBestPlace}
use Rattle.ccr_resolve.proofs.UpperLaws.{best_kept}
use Rattle.ccr_resolve.proofs.upper.lowered_place.Goals as goal

pub returns-then-names : goal.returns-then-names
returns-then-names c = λ a b upper is. c.greatest_at.ensures

pub returns-else-names : goal.returns-else-names
returns-else-names c = λ a b upper is.
    let p = c.args.index.now.problem in
    let P : Assignment → Type 0 = λ x. IsBestPlace (order_of p) p x c.args.input (slice_index c.args.upper.now c.args.input) in
    subst P (sym is) (best_kept p a c.args.job b c.args.input (slice_index c.args.upper.now c.args.input) (λ named. false≢true (sym c.if-names.false ∙ c.names.ensures.1 named)) (upper c.args.input c.requires.input))
