use Rattle.std.proofs.Common.{◌∙◌, ap, ap₂, sym, take, get_or}
use Rattle.std.specs.Option.{option_or}
use Rattle.std.proofs.lemmas.List.{take_more}
use Rattle.ccr_history.specs.Newest.{last_given, place_if_at}
use Rattle.ccr_history.proofs.Given.{last_given-push}
use Rattle.ccr_problem.proofs.coming.last_used.Goals as goal

pub loop-one-preserved : goal.loop-one-preserved
loop-one-preserved c =
    let used = c.args.used.now in
    let i = c.loop-one.one-index in
    let one = c.one-item.result in
    let f = place_if_at c.args.input.now c.args.scope in
    c.or-place.ensures
    ∙ ap₂ option_or (c.place_if_at.ensures ∙ ap f c.one-item.is) c.loop-one.invariant
    ∙ sym (last_given-push f (take i used) (get_or used i one))
    ∙ ap (last_given f) (sym (take_more used i one c.loop-one-test.true))
