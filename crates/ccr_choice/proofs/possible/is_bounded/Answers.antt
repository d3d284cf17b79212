use Rattle.std.proofs.Common.{◌≡◌, ◌<◌, length, slice_index, ap, sym, refl, ◌∙◌, arith, below_more}
use Rattle.std.specs.Prelude.{unwrap_or}
use Rattle.ccr_choice.specs.Preference.{prefers_after, order_of}
use Rattle.ccr_choice.specs.Table.{assigned}
use Rattle.ccr_choice.proofs.BestPlaces.{best_places}
use Rattle.ccr_choice.proofs.Orders.{is_order, same_bounded, first_decides, worse_unless}
use Rattle.ccr_choice.proofs.PossibleLaws.{length-best_places, best_places_at, best_only, bounded_by}
use Rattle.ccr_choice.proofs.possible.is_bounded.Goals as goal

pub returns-then-best-bound : goal.returns-then-best-bound
returns-then-best-bound c =
    let p = c.args.problem.now in
    let a = assigned p c.args.fixed.now in
    let i = c.loop-i.i in
    let bound = c.args.bound.now in
    let best = best_places (order_of p) p a in
    let inside : i < length p.inputs = omega (arith, ap length c.inputs.ensures.value) in
    let at : c.unwrap_or-best.result ≡ slice_index best i =
    c.unwrap_or-best.ensures ∙ ap (λ o. unwrap_or o 0) (best_only (order_of p) (is_order p) p a i _ c.best_possible.ensures)
    ∙ sym (best_places_at (order_of p) p a i inside) in
    let decided = first_decides (order_of p) (is_order p) best bound i c.loop-i.invariant
    (omega (arith, inside, length-best_places (order_of p) p a)) (omega arith) (λ e. c.if-best-bound.true (at ∙ e)) in
    let tested : c.is_preferred.result ≡ order_of p i (slice_index best i) (slice_index bound i) =
    c.is_preferred.ensures ∙ ap (λ o. prefers_after o c.unwrap_or-best.result (slice_index bound i)) c.after.ensures ∙ ap (λ x. order_of p i x (slice_index bound i)) at in
    let worse = worse_unless c.is_preferred.result ((λ t. decided.0 (sym tested ∙ t), λ h. tested ∙ decided.1 h)) in
    let same = bounded_by (order_of p) (is_order p) p a bound in
    (λ t. same.0 (worse.0 t), λ h. worse.1 (same.1 h))

pub loop-i-preserved : goal.loop-i-preserved
loop-i-preserved c =
    let p = c.args.problem.now in
    let a = assigned p c.args.fixed.now in
    let i = c.loop-i.i in
    let inside : i < length p.inputs = omega (arith, ap length c.inputs.ensures.value) in
    below_more _ _ c.loop-i.invariant
    (best_places_at (order_of p) p a i inside ∙ ap (λ o. unwrap_or o 0) (sym (best_only (order_of p) (is_order p) p a i _ c.best_possible.ensures))
    ∙ sym c.unwrap_or-best.ensures ∙ c.if-best-bound.false)

pub returns : goal.returns
returns c =
    let p = c.args.problem.now in
    let a = assigned p c.args.fixed.now in
    let none = same_bounded (order_of p) (is_order p) (best_places (order_of p) p a) c.args.bound.now c.loop-i.i c.loop-i.invariant
    (λ k within reached. omega (arith, within, reached, length-best_places (order_of p) p a, ap length c.inputs.ensures.value)) in
    (λ t. (bounded_by (order_of p) (is_order p) p a c.args.bound.now).0 none, λ h. refl)
