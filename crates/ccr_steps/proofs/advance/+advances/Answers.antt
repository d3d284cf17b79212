use Rattle.std.proofs.Common.{◌+◌, ◌<◌, length, drop, map, take, Some, false, arith, refl, sym, ap, ◌∙◌, subst}
use Rattle.std.specs.Prelude.{slice_get}
use Rattle.std.proofs.lemmas.Result.{IfOk-weaker}
use Rattle.ccr_pipeline.specs.Tree.{tree_of, trees_of, in_order, in_parallel, tried, attempts, hook}
use Rattle.ccr_steps.specs.declared.frame.Frame.TheVariants.{At, In, Left, Hook}
use Rattle.ccr_steps.specs.FrameKinds.{at_frame, is_in_frame, left_frame}
use Rattle.ccr_steps.specs.Gains.{gains_data}
use Rattle.ccr_steps.specs.Play.{ended, and_then, and_worse_end, after_try, after_hooked, play, play_in_order, play_all}
use Rattle.ccr_steps.specs.Frames.{goes_on, more_tries, Came}
use Rattle.ccr_steps.proofs.Under.{under_try, under_tries, under_step, under_hook}
use Rattle.ccr_steps.proofs.Paths.{at_there, in_there, left_there, try_lost, tries_lost, hook_lost, list_lost}
use Rattle.ccr_steps.proofs.Advances.{advanced_then, advanced_else, came_next, came_lost, goes_none, goes_some, try_goes_some, in_order_goes_none, in_order_goes_some, all_goes_none, all_goes_some, all_goes_last, advanced_at, advanced_fast, hook_goes_some, past_steps, not_done, is_done}
use Rattle.ccr_steps.proofs.StepTrees.{tree_do, tree_parallel, tree_try, tree_attempts, tree_hook}
use Rattle.ccr_steps.proofs.advance.+advances.Goals as goal

pub advance-returns-in-Do : goal.advance-returns-in-Do
advance-returns-in-Do t c =
    IfOk-weaker c.advance_in_order.result _ _ (λ r came. advanced_at (tree_of c.args.step.now) (in_order (trees_of (map tree_of c.deref.result.now))) c.args.frames.now.items c.args.level c.args.ended (gains_data c.args.gains.now) _ r (tree_do c.args.step.now c.in-Do.steps c.deref.result.now c.in-Do.is c.deref.ensures.value) came) c.advance_in_order.ensures

pub advance-returns-then-fail_fast : goal.advance-returns-then-fail_fast
advance-returns-then-fail_fast t c =
    IfOk-weaker c.advance_in_order-then-fail_fast.result _ _ (λ r came. advanced_fast (tree_of c.args.step.now) (trees_of (map tree_of c.deref-then-fail_fast.result.now)) c.args.frames.now.items c.args.level c.args.ended (gains_data c.args.gains.now) _ r (tree_parallel c.args.step.now c.in-InParallel.steps c.in-InParallel.fail_fast c.deref-then-fail_fast.result.now c.in-InParallel.is c.deref-then-fail_fast.ensures.value ∙ ap (λ b. in_parallel (trees_of (map tree_of c.deref-then-fail_fast.result.now)) b) c.if-fail_fast.true) came) c.advance_in_order-then-fail_fast.ensures

pub advance-returns-else-fail_fast : goal.advance-returns-else-fail_fast
advance-returns-else-fail_fast t c =
    IfOk-weaker c.advance_all.result _ _ (λ r came. advanced_at (tree_of c.args.step.now) (in_parallel (trees_of (map tree_of c.deref-else-fail_fast.result.now)) false) c.args.frames.now.items c.args.level c.args.ended (gains_data c.args.gains.now) _ r (tree_parallel c.args.step.now c.in-InParallel.steps c.in-InParallel.fail_fast c.deref-else-fail_fast.result.now c.in-InParallel.is c.deref-else-fail_fast.ensures.value ∙ ap (λ b. in_parallel (trees_of (map tree_of c.deref-else-fail_fast.result.now)) b) c.if-fail_fast.false) came) c.advance_all.ensures

pub advance-returns-in-Try : goal.advance-returns-in-Try
advance-returns-in-Try t c =
    IfOk-weaker c.advance_try.result _ _ (λ r came. advanced_at (tree_of c.args.step.now) (tried (tree_of c.deref-in-Try.result.now)) c.args.frames.now.items c.args.level c.args.ended (gains_data c.args.gains.now) _ r (tree_try c.args.step.now c.in-Try.inner c.deref-in-Try.result.now c.in-Try.is c.deref-in-Try.ensures) came) c.advance_try.ensures

pub advance-returns-in-Attempts : goal.advance-returns-in-Attempts
advance-returns-in-Attempts t c =
    IfOk-weaker c.advance_tries.result _ _ (λ r came. advanced_at (tree_of c.args.step.now) (attempts c.in-Attempts._most (tree_of c.deref-in-Attempts.result.now)) c.args.frames.now.items c.args.level c.args.ended (gains_data c.args.gains.now) _ r (tree_attempts c.args.step.now c.in-Attempts._most c.in-Attempts.inner c.deref-in-Attempts.result.now c.in-Attempts.is c.deref-in-Attempts.ensures) (came c.in-Attempts._most)) c.advance_tries.ensures

pub advance_under-returns-then-is_some : goal.advance_under-returns-then-is_some
advance_under-returns-then-is_some t c =
    λ f at. advanced_then f (tree_of c.args.step.now) (λ i. goes_on i (tree_of c.args.step.now) (drop (c.args.level + 1) c.args.frames.now.items) c.args.ended (gains_data c.args.gains.now)) (gains_data c.args.gains.now) c.args.frames.now.items c.args.level at c.advance.new.frames.items _ c.in_ok-came.came (sym c.is_some.ensures ∙ c.if-is_some.true) c.truncate.ensures.items c.in_ok-came.ensures

pub advance_under-returns-else-is_some : goal.advance_under-returns-else-is_some
advance_under-returns-else-is_some t c =
    λ f at. advanced_else f (tree_of c.args.step.now) (λ i. goes_on i (tree_of c.args.step.now) (drop (c.args.level + 1) c.args.frames.now.items) c.args.ended (gains_data c.args.gains.now)) (gains_data c.args.gains.now) c.args.frames.now.items c.args.level at c.advance.new.frames.items c.advance.new.frames.items c.in_ok-came.came (sym c.is_some.ensures ∙ c.if-is_some.false) c.in_ok-came.ensures

pub advance_all-returns-in_default : goal.advance_all-returns-in_default
advance_all-returns-in_default t c =
    came_lost (in_parallel (trees_of (map tree_of c.args.steps.now)) false) c.args.frames.now.items c.args.level c.args.ended (gains_data c.args.gains.now) c.lost.new.frames.items c.lost.result c.lost.ensures.value c.lost.ensures.cut (λ i. ((list_lost c.args.frames.now.items c.args.level (trees_of (map tree_of c.args.steps.now)) (ap at_frame (sym (c.frame_at.ensures.value ∙ ap (λ l. slice_get l c.args.level) c.deref.ensures.value)) ∙ sym c.place_in.ensures.value ∙ c.in_default.is)).1 i c.args.ended (gains_data c.args.gains.now)).1)

pub advance_all-returns-then-k-steps : goal.advance_all-returns-then-k-steps
advance_all-returns-then-k-steps t c =
    came_lost (in_parallel (trees_of (map tree_of c.args.steps.now)) false) c.args.frames.now.items c.args.level c.args.ended (gains_data c.args.gains.now) c.lost-then-k-steps.new.frames.items c.lost-then-k-steps.result c.lost-then-k-steps.ensures.value c.lost-then-k-steps.ensures.cut (λ i. ((past_steps c.args.frames.now.items c.args.level c.args.steps.now c.in-Some.k c.in-Some.worst ((sym (c.frame_at.ensures.value ∙ ap (λ l. slice_get l c.args.level) c.deref.ensures.value)) ∙ at_there _ c.in-Some.k c.in-Some.worst (sym c.place_in.ensures.value ∙ c.in-Some.is)) (omega arith)).1 i c.args.ended (gains_data c.args.gains.now)).1)

pub advance_all-returns-in-None : goal.advance_all-returns-in-None
advance_all-returns-in-None t c =
    let at = ((sym (c.frame_at.ensures.value ∙ ap (λ l. slice_get l c.args.level) c.deref.ensures.value)) ∙ at_there _ c.in-Some.k c.in-Some.worst (sym c.place_in.ensures.value ∙ c.in-Some.is)) in
    let l : c.in-Some.k < length c.args.steps.now = omega arith in
    all_goes_none c.args.frames.now.items c.args.level c.args.ended (gains_data c.args.gains.now) c.advance_under.new.frames.items c.in_ok-advance_under.field-0 c.args.steps.now c.in-Some.k c.index-steps-k.result c.in-Some.worst l c.index-steps-k.is at c.in-None.is (c.in_ok-advance_under.ensures (At c.in-Some.k c.in-Some.worst) at)

pub advance_all-returns-in-Some-2 : goal.advance_all-returns-in-Some-2
advance_all-returns-in-Some-2 t c =
    let at = ((sym (c.frame_at.ensures.value ∙ ap (λ l. slice_get l c.args.level) c.deref.ensures.value)) ∙ at_there _ c.in-Some.k c.in-Some.worst (sym c.place_in.ensures.value ∙ c.in-Some.is)) in
    let l : c.in-Some.k < length c.args.steps.now = omega arith in
    all_goes_last c.args.frames.now.items c.args.level c.args.ended (gains_data c.args.gains.now) c.advance_under.new.frames.items c.in_ok-advance_under.field-0 c.args.steps.now c.in-Some.k c.index-steps-k.result c.in-Some.worst l c.index-steps-k.is at c.in-Some-2.outcome (sym c.is_aborted.ensures ∙ c.if-is_aborted.true) c.in-Some-2.is (c.in_ok-advance_under.ensures (At c.in-Some.k c.in-Some.worst) at)

pub advance_all-returns-in-Some-2-2 : goal.advance_all-returns-in-Some-2-2
advance_all-returns-in-Some-2-2 t c =
    let at = ((sym (c.frame_at.ensures.value ∙ ap (λ l. slice_get l c.args.level) c.deref.ensures.value)) ∙ at_there _ c.in-Some.k c.in-Some.worst (sym c.place_in.ensures.value ∙ c.in-Some.is)) in
    let l : c.in-Some.k < length c.args.steps.now = omega arith in
    let got = all_goes_some c.args.frames.now.items c.args.level c.args.ended (gains_data c.args.gains.now) c.advance_under.new.frames.items c.in_ok-advance_under.field-0 c.args.steps.now c.in-Some.k c.index-steps-k.result c.in-Some.worst l c.index-steps-k.is at c.in-Some-2.outcome (sym c.is_aborted.ensures ∙ c.if-is_aborted.false) c.in-Some-2.is (c.in_ok-advance_under.ensures (At c.in-Some.k c.in-Some.worst) at) in
    IfOk-weaker c.begin_all.result _ _ (λ r came. came_next (λ i. and_then (play_all i (trees_of (map tree_of (drop (c.in-Some.k + 1) c.args.steps.now))) (gains_data c.args.gains.now)) (and_worse_end c.worse.result)) (λ i. goes_on i (in_parallel (trees_of (map tree_of c.args.steps.now)) false) (drop c.args.level c.args.frames.now.items) c.args.ended (gains_data c.args.gains.now)) (in_parallel (trees_of (map tree_of c.args.steps.now)) false) (gains_data c.args.gains.now) (take c.args.level c.args.frames.now.items) c.advance_under.new.frames.items _ r (got.0, λ i. got.1 i ∙ ap (λ w. and_then (play_all i (trees_of (map tree_of (drop (c.in-Some.k + 1) c.args.steps.now))) (gains_data c.args.gains.now)) (and_worse_end w)) (sym c.worse.ensures)) came) c.begin_all.ensures

pub advance_in_order-returns-in_default : goal.advance_in_order-returns-in_default
advance_in_order-returns-in_default t c =
    came_lost (in_order (trees_of (map tree_of c.args.steps.now))) c.args.frames.now.items c.args.level c.args.ended (gains_data c.args.gains.now) c.lost.new.frames.items c.lost.result c.lost.ensures.value c.lost.ensures.cut (λ i. ((list_lost c.args.frames.now.items c.args.level (trees_of (map tree_of c.args.steps.now)) (ap at_frame (sym (c.frame_at.ensures.value ∙ ap (λ l. slice_get l c.args.level) c.deref.ensures.value)) ∙ sym c.place_in.ensures.value ∙ c.in_default.is)).1 i c.args.ended (gains_data c.args.gains.now)).0)

pub advance_in_order-returns-then-k-steps : goal.advance_in_order-returns-then-k-steps
advance_in_order-returns-then-k-steps t c =
    came_lost (in_order (trees_of (map tree_of c.args.steps.now))) c.args.frames.now.items c.args.level c.args.ended (gains_data c.args.gains.now) c.lost-then-k-steps.new.frames.items c.lost-then-k-steps.result c.lost-then-k-steps.ensures.value c.lost-then-k-steps.ensures.cut (λ i. ((past_steps c.args.frames.now.items c.args.level c.args.steps.now c.in-Some.k c.in-Some._worst ((sym (c.frame_at.ensures.value ∙ ap (λ l. slice_get l c.args.level) c.deref.ensures.value)) ∙ at_there _ c.in-Some.k c.in-Some._worst (sym c.place_in.ensures.value ∙ c.in-Some.is)) (omega arith)).1 i c.args.ended (gains_data c.args.gains.now)).0)

pub advance_in_order-returns-in-None : goal.advance_in_order-returns-in-None
advance_in_order-returns-in-None t c =
    let at = ((sym (c.frame_at.ensures.value ∙ ap (λ l. slice_get l c.args.level) c.deref.ensures.value)) ∙ at_there _ c.in-Some.k c.in-Some._worst (sym c.place_in.ensures.value ∙ c.in-Some.is)) in
    let l : c.in-Some.k < length c.args.steps.now = omega arith in
    in_order_goes_none c.args.frames.now.items c.args.level c.args.ended (gains_data c.args.gains.now) c.advance_under.new.frames.items c.in_ok-advance_under.field-0 c.args.steps.now c.in-Some.k c.index-steps-k.result c.in-Some._worst l c.index-steps-k.is at c.in-None.is (c.in_ok-advance_under.ensures (At c.in-Some.k c.in-Some._worst) at)

pub advance_try-returns-then-not-is_in : goal.advance_try-returns-then-not-is_in
advance_try-returns-then-not-is_in t c =
    came_lost (tried (tree_of c.args.step.now)) c.args.frames.now.items c.args.level c.args.ended (gains_data c.args.gains.now) c.lost.new.frames.items c.lost.result c.lost.ensures.value c.lost.ensures.cut (λ i. (try_lost c.args.frames.now.items c.args.level (tree_of c.args.step.now) (ap is_in_frame (sym (c.frame_at.ensures.value ∙ ap (λ l. slice_get l c.args.level) c.deref.ensures.value)) ∙ sym c.is_in.ensures.value ∙ c.if-not-is_in.true)).1 i c.args.ended (gains_data c.args.gains.now))

pub advance_try-returns-in-None : goal.advance_try-returns-in-None
advance_try-returns-in-None t c =
    let at = ((sym (c.frame_at.ensures.value ∙ ap (λ l. slice_get l c.args.level) c.deref.ensures.value)) ∙ in_there _ (sym c.is_in.ensures.value ∙ c.if-not-is_in.false)) in goes_none c.args.frames.now.items c.args.level c.args.ended (gains_data c.args.gains.now) c.advance_under.new.frames.items _ In (tree_of c.args.step.now) (tried (tree_of c.args.step.now)) (λ i. after_try) (under_try (tree_of c.args.step.now)) at c.in-None.is (c.in_ok-outcome.ensures In at)

pub advance-returns-in-Some : goal.advance-returns-in-Some
advance-returns-in-Some t c =
    IfOk-weaker c.advance_in_hook.result _ _ (λ r came. advanced_at (tree_of c.args.step.now) (hook c.in-Hook.when (tree_of c.in-Hook.inner.value) (tree_of c.deref-in-Some.result.now)) c.args.frames.now.items c.args.level c.args.ended (gains_data c.args.gains.now) _ r (tree_hook c.args.step.now c.in-Hook.when c.in-Hook.inner c.in-Hook.hook c.in-Hook.inner.value c.deref-in-Some.result.now c.in-Hook.is refl c.deref-in-Some.ensures) (came c.in-Hook.when (tree_of c.in-Hook.inner.value))) c.advance_in_hook.ensures

pub advance-returns-in-None : goal.advance-returns-in-None
advance-returns-in-None t c =
    IfOk-weaker c.advance_hooked.result _ _ (λ r came. advanced_at (tree_of c.args.step.now) (hook c.in-Hook.when (tree_of c.deref-in-None.result.now) (tree_of c.deref-in-None-2.result.now)) c.args.frames.now.items c.args.level c.args.ended (gains_data c.args.gains.now) _ r (tree_hook c.args.step.now c.in-Hook.when c.in-Hook.inner c.in-Hook.hook c.deref-in-None.result.now c.deref-in-None-2.result.now c.in-Hook.is c.deref-in-None.ensures c.deref-in-None-2.ensures) came) c.advance_hooked.ensures

pub advance_hooked-returns-then-not-is_in : goal.advance_hooked-returns-then-not-is_in
advance_hooked-returns-then-not-is_in t c =
    came_lost (hook c.args.when (tree_of c.args.step.now) (tree_of c.args.hook.now)) c.args.frames.now.items c.args.level c.args.ended (gains_data c.args.gains.now) c.lost.new.frames.items c.lost.result c.lost.ensures.value c.lost.ensures.cut (λ i. (hook_lost c.args.frames.now.items c.args.level c.args.when (tree_of c.args.step.now) (tree_of c.args.hook.now) (ap is_in_frame (sym (c.frame_at.ensures.value ∙ ap (λ l. slice_get l c.args.level) c.deref.ensures.value)) ∙ sym c.is_in.ensures.value ∙ c.if-not-is_in.true) c.requires).1 i c.args.ended (gains_data c.args.gains.now))

pub advance_hooked-returns-in-None : goal.advance_hooked-returns-in-None
advance_hooked-returns-in-None t c =
    let at = ((sym (c.frame_at.ensures.value ∙ ap (λ l. slice_get l c.args.level) c.deref.ensures.value)) ∙ in_there _ (sym c.is_in.ensures.value ∙ c.if-not-is_in.false)) in goes_none c.args.frames.now.items c.args.level c.args.ended (gains_data c.args.gains.now) c.advance_under.new.frames.items _ In (tree_of c.args.step.now) (hook c.args.when (tree_of c.args.step.now) (tree_of c.args.hook.now)) (λ i. after_hooked c.args.when (play i (tree_of c.args.hook.now))) (under_step c.args.when (tree_of c.args.step.now) (tree_of c.args.hook.now)) at c.in-None.is (c.in_ok-outcome.ensures In at)

pub advance_hooked-returns-in-Some : goal.advance_hooked-returns-in-Some
advance_hooked-returns-in-Some t c =
    let at = ((sym (c.frame_at.ensures.value ∙ ap (λ l. slice_get l c.args.level) c.deref.ensures.value)) ∙ in_there _ (sym c.is_in.ensures.value ∙ c.if-not-is_in.false)) in
    let got = goes_some c.args.frames.now.items c.args.level c.args.ended (gains_data c.args.gains.now) c.advance_under.new.frames.items c.in_ok-outcome.field-0 In (tree_of c.args.step.now) (hook c.args.when (tree_of c.args.step.now) (tree_of c.args.hook.now)) (λ i. after_hooked c.args.when (play i (tree_of c.args.hook.now))) (under_step c.args.when (tree_of c.args.step.now) (tree_of c.args.hook.now)) at c.in-Some.outcome c.in-Some.is (c.in_ok-outcome.ensures In at) in
    IfOk-weaker c.begin_hook.result _ _ (λ r came. came_next (λ i. after_hooked c.args.when (play i (tree_of c.args.hook.now)) c.in-Some.outcome (gains_data c.args.gains.now)) (λ i. goes_on i (hook c.args.when (tree_of c.args.step.now) (tree_of c.args.hook.now)) (drop c.args.level c.args.frames.now.items) c.args.ended (gains_data c.args.gains.now)) (hook c.args.when (tree_of c.args.step.now) (tree_of c.args.hook.now)) (gains_data c.args.gains.now) (take c.args.level c.args.frames.now.items) c.advance_under.new.frames.items _ r got (came (tree_of c.args.step.now))) c.begin_hook.ensures

pub advance_in_hook-returns-in-None : goal.advance_in_hook-returns-in-None
advance_in_hook-returns-in-None t c =
    λ w u. goes_none c.args.frames.now.items c.args.level c.args.ended (gains_data c.args.gains.now) c.advance_under.new.frames.items _ (Hook c.args.outcome) (tree_of c.args.hook.now) (hook w u (tree_of c.args.hook.now)) (λ i. and_worse_end c.args.outcome) (under_hook w u (tree_of c.args.hook.now) c.args.outcome) c.requires.at c.in-None.is (c.in_ok-end.ensures (Hook c.args.outcome) c.requires.at)

pub advance_in_hook-returns-in-Some : goal.advance_in_hook-returns-in-Some
advance_in_hook-returns-in-Some t c =
    λ w u. subst (λ o. Came (λ i. goes_on i (hook w u (tree_of c.args.hook.now)) (drop c.args.level c.args.frames.now.items) c.args.ended (gains_data c.args.gains.now)) (hook w u (tree_of c.args.hook.now)) (gains_data c.args.gains.now) (take c.args.level c.args.frames.now.items) c.advance_under.new.frames.items (Some o)) (sym c.worse.ensures) (hook_goes_some w u (tree_of c.args.hook.now) c.args.frames.now.items c.args.level c.args.ended (gains_data c.args.gains.now) c.advance_under.new.frames.items _ c.args.outcome c.in-Some.end c.requires.at c.in-Some.is (c.in_ok-end.ensures (Hook c.args.outcome) c.requires.at))

pub advance_tries-returns-in_default : goal.advance_tries-returns-in_default
advance_tries-returns-in_default t c =
    λ n. came_lost (attempts n (tree_of c.args.step.now)) c.args.frames.now.items c.args.level c.args.ended (gains_data c.args.gains.now) c.lost.new.frames.items c.lost.result c.lost.ensures.value c.lost.ensures.cut (λ i. (tries_lost c.args.frames.now.items c.args.level n (tree_of c.args.step.now) (ap left_frame (sym (c.frame_at.ensures.value ∙ ap (λ l. slice_get l c.args.level) c.deref.ensures.value)) ∙ sym c.left_in.ensures.value ∙ c.in_default.is)).1 i c.args.ended (gains_data c.args.gains.now))

pub advance_tries-returns-in-None : goal.advance_tries-returns-in-None
advance_tries-returns-in-None t c =
    let at = ((sym (c.frame_at.ensures.value ∙ ap (λ l. slice_get l c.args.level) c.deref.ensures.value)) ∙ left_there _ c.in-Some.left (sym c.left_in.ensures.value ∙ c.in-Some.is)) in λ n. goes_none c.args.frames.now.items c.args.level c.args.ended (gains_data c.args.gains.now) c.advance_under.new.frames.items _ (Left c.in-Some.left) (tree_of c.args.step.now) (attempts n (tree_of c.args.step.now)) (λ i. more_tries c.in-Some.left (play i (tree_of c.args.step.now))) (under_tries c.in-Some.left n (tree_of c.args.step.now)) at c.in-None.is (c.in_ok-outcome.ensures (Left c.in-Some.left) at)

pub advance_tries-returns-in-Some-2 : goal.advance_tries-returns-in-Some-2
advance_tries-returns-in-Some-2 t c =
    let at = ((sym (c.frame_at.ensures.value ∙ ap (λ l. slice_get l c.args.level) c.deref.ensures.value)) ∙ left_there _ c.in-Some.left (sym c.left_in.ensures.value ∙ c.in-Some.is)) in
    IfOk-weaker c.retry.result _ _ (λ r came n. came_next (λ i. more_tries c.in-Some.left (play i (tree_of c.args.step.now)) c.in-Some-2.outcome (gains_data c.args.gains.now)) (λ i. goes_on i (attempts n (tree_of c.args.step.now)) (drop c.args.level c.args.frames.now.items) c.args.ended (gains_data c.args.gains.now)) (attempts n (tree_of c.args.step.now)) (gains_data c.args.gains.now) (take c.args.level c.args.frames.now.items) c.advance_under.new.frames.items _ r
    (goes_some c.args.frames.now.items c.args.level c.args.ended (gains_data c.args.gains.now) c.advance_under.new.frames.items c.in_ok-outcome.field-0 (Left c.in-Some.left) (tree_of c.args.step.now) (attempts n (tree_of c.args.step.now)) (λ i. more_tries c.in-Some.left (play i (tree_of c.args.step.now))) (under_tries c.in-Some.left n (tree_of c.args.step.now)) at c.in-Some-2.outcome c.in-Some-2.is (c.in_ok-outcome.ensures (Left c.in-Some.left) at)) (came n)) c.retry.ensures

pub advance_try-returns-in-Some : goal.advance_try-returns-in-Some
advance_try-returns-in-Some t c =
    let at = ((sym (c.frame_at.ensures.value ∙ ap (λ l. slice_get l c.args.level) c.deref.ensures.value)) ∙ in_there _ (sym c.is_in.ensures.value ∙ c.if-not-is_in.false)) in
    let got = try_goes_some c.args.frames.now.items c.args.level c.args.ended (gains_data c.args.gains.now) c.advance_under.new.frames.items c.in_ok-outcome.field-0 (tree_of c.args.step.now) c.in-Some.outcome at c.in-Some.is (c.in_ok-outcome.ensures In at) in
    (got.0, λ i. got.1 i ∙ ap (λ o. ended o (gains_data c.args.gains.now)) (sym c.tried.ensures))

pub advance_in_order-returns-in-Some-2 : goal.advance_in_order-returns-in-Some-2
advance_in_order-returns-in-Some-2 t c =
    let at = ((sym (c.frame_at.ensures.value ∙ ap (λ l. slice_get l c.args.level) c.deref.ensures.value)) ∙ at_there _ c.in-Some.k c.in-Some._worst (sym c.place_in.ensures.value ∙ c.in-Some.is)) in
    let l : c.in-Some.k < length c.args.steps.now = omega arith in
    let got = in_order_goes_some c.args.frames.now.items c.args.level c.args.ended (gains_data c.args.gains.now) c.advance_under.new.frames.items c.in_ok-advance_under.field-0 c.args.steps.now c.in-Some.k c.index-steps-k.result c.in-Some._worst l c.index-steps-k.is at c.in-Some-2.outcome c.in-Some-2.is (c.in_ok-advance_under.ensures (At c.in-Some.k c.in-Some._worst) at) in
    IfOk-weaker c.begin_in_order.result _ _ (λ r came. came_next (λ i. play_in_order i (trees_of (map tree_of (drop (c.in-Some.k + 1) c.args.steps.now))) (gains_data c.args.gains.now)) (λ i. goes_on i (in_order (trees_of (map tree_of c.args.steps.now))) (drop c.args.level c.args.frames.now.items) c.args.ended (gains_data c.args.gains.now)) (in_order (trees_of (map tree_of c.args.steps.now))) (gains_data c.args.gains.now) (take c.args.level c.args.frames.now.items) c.advance_under.new.frames.items _ r (got.0, λ i. got.1 i ∙ is_done (play_in_order i (trees_of (map tree_of (drop (c.in-Some.k + 1) c.args.steps.now)))) c.in-Some-2.outcome (gains_data c.args.gains.now) (sym c.is_succeeded.ensures ∙ c.if-is_succeeded.true)) came) c.begin_in_order.ensures

pub advance_in_order-returns-in-Some-2-2 : goal.advance_in_order-returns-in-Some-2-2
advance_in_order-returns-in-Some-2-2 t c =
    let at = ((sym (c.frame_at.ensures.value ∙ ap (λ l. slice_get l c.args.level) c.deref.ensures.value)) ∙ at_there _ c.in-Some.k c.in-Some._worst (sym c.place_in.ensures.value ∙ c.in-Some.is)) in
    let l : c.in-Some.k < length c.args.steps.now = omega arith in
    let got = in_order_goes_some c.args.frames.now.items c.args.level c.args.ended (gains_data c.args.gains.now) c.advance_under.new.frames.items c.in_ok-advance_under.field-0 c.args.steps.now c.in-Some.k c.index-steps-k.result c.in-Some._worst l c.index-steps-k.is at c.in-Some-2.outcome c.in-Some-2.is (c.in_ok-advance_under.ensures (At c.in-Some.k c.in-Some._worst) at) in
    (got.0, λ i. got.1 i ∙ not_done (play_in_order i (trees_of (map tree_of (drop (c.in-Some.k + 1) c.args.steps.now)))) c.in-Some-2.outcome (gains_data c.args.gains.now) (sym c.is_succeeded.ensures ∙ c.if-is_succeeded.false))
