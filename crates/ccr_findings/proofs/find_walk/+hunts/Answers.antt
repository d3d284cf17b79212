use Rattle.std.proofs.Common.{[], ◌∷◌, refl, sym, arith}
use Rattle.serde_json.specs.View.{view}
use Rattle.ccr_history.proofs.Items.{left_of-cons, left_of-end}
use Rattle.ccr_pipeline.specs.Places.{Closing, spot_of, steps_in, step_at, own_steps, hook_steps}
use Rattle.ccr_findings.proofs.Hunts.{found_nothing, found_last, found_on, found_end, opening_found, closing_found}
use Rattle.ccr_pipeline.proofs.Visits.{steps_none, steps_below}
use Rattle.ccr_findings.proofs.find_walk.+hunts.Goals as goal

pub find_list-loop-i-preserved : goal.find_list-loop-i-preserved
find_list-loop-i-preserved t c =
    found_on _ _ _ _ _ _ (rw (left_of-cons _ _ _ _ c.loop-i-test.true c.index-list-i.is) at c.loop-i.invariant) (rw (c.member.ensures.value, c.member.ensures.place) at c.in_ok-find_steps.ensures)

pub find_list-returns-in_default : goal.find_list-returns-in_default
unfolding steps_in
find_list-returns-in_default t c = found_nothing _ _ (rw (sym c.in_default.ensures.value) refl)

pub find_list-returns : goal.find_list-returns
unfolding steps_in
find_list-returns t c =
    rw (sym c.in-Some.ensures.value, sym c.in-Some.ensures.place, sym c.items_in-list.ensures)
    (found_end _ _ _ (rw (left_of-end view c.items_in-list.result.now c.loop-i.i (omega arith)) at c.loop-i.invariant))

pub find_at-returns-in-None : goal.find_at-returns-in-None
unfolding step_at
find_at-returns-in-None t c = found_nothing _ _ (rw (sym c.in-None.ensures.value) refl)

pub find_parallel-returns-in-None : goal.find_parallel-returns-in-None
find_parallel-returns-in-None t c = found_nothing _ _ (rw (sym c.in-None.ensures.value) refl)

pub find_own-returns : goal.find_own-returns
unfolding own_steps
find_own-returns t c =
    found_last _ _ _ _ _ _ c.in_ok-find_list.ensures (found_last _ _ _ _ _ _ c.in_ok-find_list-2.ensures
    (found_last _ _ _ _ _ _ c.in_ok-find_parallel.ensures c.find_at.ensures))

pub find_hooks-returns : goal.find_hooks-returns
unfolding hook_steps
find_hooks-returns t c =
    found_last _ _ _ _ _ _ c.in_ok-find_at.ensures (found_last _ _ _ _ _ _ c.in_ok-find_at-2.ensures
    (found_last _ _ _ _ _ _ c.in_ok-find_at-3.ensures (found_last _ _ _ _ _ _ c.in_ok-find_at-4.ensures c.find_at-5.ensures)))

pub find_steps-returns-then-reach-eq0 : goal.find_steps-returns-then-reach-eq0
find_steps-returns-then-reach-eq0 t c =
    rw (steps_none _ _ _ _ c.if-reach-eq0.true)
    (opening_found _ _ _ _ _ _ c.in_ok-find_opening.ensures.found c.in_ok-find_opening.ensures.added c.in_ok-find_unknown.ensures refl refl)

pub find_steps-returns : goal.find_steps-returns
find_steps-returns t c =
    rw (steps_below _ _ _ _ c.if-reach-eq0.false, sym c.below-below.ensures.left, sym c.below-below.ensures.tries)
    (found_last _ _ _ _ _ _ (opening_found _ _ _ _ _ _ c.in_ok-find_opening.ensures.found c.in_ok-find_opening.ensures.added c.in_ok-find_unknown.ensures refl refl)
    (found_last _ _ _ _ _ _ c.in_ok-find_own.ensures
    (found_last _ _ _ _ (spot_of Closing _ c.args.reach.left _ _ ∷ []) _ (closing_found _ _ _ c.args.reach.left _ _ c.in_ok-find_closing.ensures refl refl refl refl) c.find_hooks.ensures)))
