use Rattle.std.proofs.Common.{◌∙◌, ap, sym, arith, length, is_gt, nat_cmp}
use Rattle.std.specs.Cmp.Lexicographic.{slice_cmp}
use Rattle.std.proofs.lemmas.List.{get_or_default}
use Rattle.ccr_history.specs.Names.{name_at}
use Rattle.ccr_history.proofs.UsedPlaces.{insert_row_is-with_used}
use Rattle.ccr_history.proofs.used_row.place_of.Goals as goal

pub returns-then-not-is_gt-clause-place : goal.returns-then-not-is_gt-clause-place
returns-then-not-is_gt-clause-place c =
    let rows = c.args.rows.now in
    let inputs = c.args.inputs.now in
    let name = c.args.name.now in
    let i = c.loop-i.i in
    insert_row_is-with_used inputs rows name i (omega arith) (λ k d h. c.loop-i.invariant k d h)
    (λ h d.
    ap (λ r. is_gt (slice_cmp nat_cmp name (name_at inputs r.input))) (get_or_default rows i d _ h)
    ∙ ap (λ t. is_gt (slice_cmp nat_cmp name t)) (sym c.get.ensures)
    ∙ ap is_gt (sym c.cmp.ensures)
    ∙ sym c.is_gt.ensures
    ∙ c.if-not-is_gt.true)

pub returns-clause-place : goal.returns-clause-place
returns-clause-place c =
    insert_row_is-with_used c.args.inputs.now c.args.rows.now c.args.name.now (length c.args.rows.now) (omega arith)
    (λ k d h. c.loop-i.invariant k d (omega (arith, h))) (λ h. absurd (omega (arith, h)))
