use Rattle.std.proofs.Common.{[], ◌∷◌, ◌∙◌, refl, sym, arith}
use Rattle.serde_json.specs.View.{view}
use Rattle.ccr_history.proofs.Items.{left_of-cons, left_of-end}
use Rattle.ccr_pipeline.specs.Places.{Closing, spot_of, steps_in, step_at, own_steps, hook_steps}
use Rattle.ccr_pipeline.proofs.Faulted.{first_append}
use Rattle.ccr_pipeline.proofs.Visits.{walked_none, walks_then, walks_fault, goes_on, goes_fault, goes_end, walked_opening, walked_closing, opening_fault, steps_none, steps_below}
use Rattle.ccr_pipeline.proofs.walk.+walk.Goals as goal

pub read_list-loop-i-preserved : goal.read_list-loop-i-preserved
read_list-loop-i-preserved t c =
    goes_on _ _ _ _ _ _ _ _ _ (rw (left_of-cons _ _ _ _ c.loop-i-test.true c.index-list-i.is) at c.loop-i.invariant) (rw (c.member.ensures.value, c.member.ensures.place) at c.in_ok-read_step.ensures)

pub read_list-returns-in_default : goal.read_list-returns-in_default
unfolding steps_in
read_list-returns-in_default t c = walked_none _ _ _ (rw (sym c.in_default.ensures.value) refl)

pub read_list-returns-in_err-read_step : goal.read_list-returns-in_err-read_step
unfolding steps_in
read_list-returns-in_err-read_step t c =
    rw (sym c.in-Some.ensures.value, sym c.in-Some.ensures.place, sym c.items_in-list.ensures)
    (goes_fault _ _ _ _ _ _ _ _ _ _ _ (rw (left_of-cons _ _ _ _ c.loop-i-test.true c.index-list-i.is) at c.loop-i.invariant) c.from_residual.ensures.1 (rw (c.member.ensures.value, c.member.ensures.place) at c.in_err-read_step.ensures))

pub read_list-returns : goal.read_list-returns
unfolding steps_in
read_list-returns t c =
    rw (sym c.in-Some.ensures.value, sym c.in-Some.ensures.place, sym c.items_in-list.ensures)
    (goes_end _ _ _ _ _ (rw (left_of-end view c.items_in-list.result.now c.loop-i.i (omega arith)) at c.loop-i.invariant))

pub read_at-returns-in-None : goal.read_at-returns-in-None
unfolding step_at
read_at-returns-in-None t c = walked_none _ _ _ (rw (sym c.in-None.ensures.value) refl)

pub read_parallel-returns-in-None : goal.read_parallel-returns-in-None
read_parallel-returns-in-None t c = walked_none _ _ _ (rw (sym c.in-None.ensures.value) refl)

pub read_own-returns-in_err-read_list : goal.read_own-returns-in_err-read_list
unfolding own_steps
read_own-returns-in_err-read_list t c = walks_fault _ _ _ _ _ _ _ _ c.from_residual.ensures.1 c.in_err-read_list.ensures

pub read_own-returns-in_err-read_list-2 : goal.read_own-returns-in_err-read_list-2
unfolding own_steps
read_own-returns-in_err-read_list-2 t c =
    walks_then _ _ _ _ _ _ _ _ _ c.in_ok-read_list.ensures
    (walks_fault _ _ _ _ _ _ _ _ c.from_residual-in_err-read_list-2.ensures.1 c.in_err-read_list-2.ensures)

pub read_own-returns-in_err-read_parallel : goal.read_own-returns-in_err-read_parallel
unfolding own_steps
read_own-returns-in_err-read_parallel t c =
    walks_then _ _ _ _ _ _ _ _ _ c.in_ok-read_list.ensures (walks_then _ _ _ _ _ _ _ _ _ c.in_ok-read_list-2.ensures
    (walks_fault _ _ _ _ _ _ _ _ c.from_residual-in_err-read_parallel.ensures.1 c.in_err-read_parallel.ensures))

pub read_own-returns : goal.read_own-returns
unfolding own_steps
read_own-returns t c =
    walks_then _ _ _ _ _ _ _ _ _ c.in_ok-read_list.ensures (walks_then _ _ _ _ _ _ _ _ _ c.in_ok-read_list-2.ensures
    (walks_then _ _ _ _ _ _ _ _ _ c.in_ok-read_parallel.ensures c.read_at.ensures))

pub read_hooks-returns-in_err-read_at : goal.read_hooks-returns-in_err-read_at
unfolding hook_steps
read_hooks-returns-in_err-read_at t c = walks_fault _ _ _ _ _ _ _ _ c.from_residual.ensures.1 c.in_err-read_at.ensures

pub read_hooks-returns-in_err-read_at-2 : goal.read_hooks-returns-in_err-read_at-2
unfolding hook_steps
read_hooks-returns-in_err-read_at-2 t c =
    walks_then _ _ _ _ _ _ _ _ _ c.in_ok-read_at.ensures
    (walks_fault _ _ _ _ _ _ _ _ c.from_residual-in_err-read_at-2.ensures.1 c.in_err-read_at-2.ensures)

pub read_hooks-returns-in_err-read_at-3 : goal.read_hooks-returns-in_err-read_at-3
unfolding hook_steps
read_hooks-returns-in_err-read_at-3 t c =
    walks_then _ _ _ _ _ _ _ _ _ c.in_ok-read_at.ensures (walks_then _ _ _ _ _ _ _ _ _ c.in_ok-read_at-2.ensures
    (walks_fault _ _ _ _ _ _ _ _ c.from_residual-in_err-read_at-3.ensures.1 c.in_err-read_at-3.ensures))

pub read_hooks-returns-in_err-read_at-4 : goal.read_hooks-returns-in_err-read_at-4
unfolding hook_steps
read_hooks-returns-in_err-read_at-4 t c =
    walks_then _ _ _ _ _ _ _ _ _ c.in_ok-read_at.ensures (walks_then _ _ _ _ _ _ _ _ _ c.in_ok-read_at-2.ensures
    (walks_then _ _ _ _ _ _ _ _ _ c.in_ok-read_at-3.ensures
    (walks_fault _ _ _ _ _ _ _ _ c.from_residual-in_err-read_at-4.ensures.1 c.in_err-read_at-4.ensures)))

pub read_hooks-returns : goal.read_hooks-returns
unfolding hook_steps
read_hooks-returns t c =
    walks_then _ _ _ _ _ _ _ _ _ c.in_ok-read_at.ensures (walks_then _ _ _ _ _ _ _ _ _ c.in_ok-read_at-2.ensures
    (walks_then _ _ _ _ _ _ _ _ _ c.in_ok-read_at-3.ensures (walks_then _ _ _ _ _ _ _ _ _ c.in_ok-read_at-4.ensures
    c.read_at-5.ensures)))

pub read_step-returns-in_err-check_opening : goal.read_step-returns-in_err-check_opening
read_step-returns-in_err-check_opening t c = opening_fault _ _ _ _ _ _ _ _ _ _ c.from_residual.ensures.1 c.in_err-check_opening.ensures.checked

pub read_step-returns-then-reach-eq0 : goal.read_step-returns-then-reach-eq0
read_step-returns-then-reach-eq0 t c =
    rw (steps_none _ _ _ _ c.if-reach-eq0.true)
    (walked_opening _ _ _ _ _ _ _ _ c.in_ok-check_opening.ensures.checked (c.in_ok-note_step.ensures.gets ∙ c.in_ok-check_opening.ensures.added) c.in_ok-note_step.ensures.noted)

pub read_step-returns-in_err-read_own : goal.read_step-returns-in_err-read_own
read_step-returns-in_err-read_own t c =
    rw (steps_below _ _ _ _ c.if-reach-eq0.false, sym c.below-below.ensures.left, sym c.below-below.ensures.tries)
    (walks_then _ _ _ _ _ _ _ _ _ (walked_opening _ _ _ _ _ _ _ _ c.in_ok-check_opening.ensures.checked (c.in_ok-note_step.ensures.gets ∙ c.in_ok-check_opening.ensures.added) c.in_ok-note_step.ensures.noted)
    (walks_fault _ _ _ _ _ _ _ _ c.from_residual-in_err-read_own.ensures.1 c.in_err-read_own.ensures))

pub read_step-returns-in_err-check_closing : goal.read_step-returns-in_err-check_closing
read_step-returns-in_err-check_closing t c =
    rw (steps_below _ _ _ _ c.if-reach-eq0.false, sym c.below-below.ensures.left, sym c.below-below.ensures.tries)
    (walks_then _ _ _ _ _ _ _ _ _ (walked_opening _ _ _ _ _ _ _ _ c.in_ok-check_opening.ensures.checked (c.in_ok-note_step.ensures.gets ∙ c.in_ok-check_opening.ensures.added) c.in_ok-note_step.ensures.noted)
    (walks_then _ _ _ _ _ _ _ _ _ c.in_ok-read_own.ensures
    (walks_fault _ _ _ _ (spot_of Closing _ c.args.reach.left _ _ ∷ []) _ _ _ c.from_residual-in_err-check_closing.ensures.1 (first_append _ _ _ c.in_err-check_closing.ensures))))

pub read_step-returns : goal.read_step-returns
read_step-returns t c =
    rw (steps_below _ _ _ _ c.if-reach-eq0.false, sym c.below-below.ensures.left, sym c.below-below.ensures.tries)
    (walks_then _ _ _ _ _ _ _ _ _ (walked_opening _ _ _ _ _ _ _ _ c.in_ok-check_opening.ensures.checked (c.in_ok-note_step.ensures.gets ∙ c.in_ok-check_opening.ensures.added) c.in_ok-note_step.ensures.noted)
    (walks_then _ _ _ _ _ _ _ _ _ c.in_ok-read_own.ensures
    (walks_then _ _ _ _ _ _ _ _ _ (walked_closing _ _ _ c.args.reach.left _ _ c.in_ok-check_closing.ensures) c.read_hooks.ensures)))
