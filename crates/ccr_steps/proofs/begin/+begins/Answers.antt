use Rattle.std.proofs.Common.{◌+◌, drop, map, None, sym, ap, ◌∙◌, refl, subst}
use Rattle.std.proofs.lemmas.Result.{IfOk-weaker}
use Rattle.ccr_pipeline.specs.Tree.{tree_of, trees_of, get_data, put_data, task_data, get, put, task}
use Rattle.ccr_steps.specs.declared.outcome.Outcome.TheVariants.{Succeeded}
use Rattle.ccr_steps.specs.declared.frame.Frame.TheVariants.{At}
use Rattle.ccr_steps.specs.Frames.{Came, CameUnder}
use Rattle.ccr_steps.specs.Gains.{gains_data}
use Rattle.ccr_steps.specs.Play.{and_then, and_worse_end, play, play_in_order, play_all}
use Rattle.ccr_steps.proofs.Begins.{came_get, came_put, came_task, tries_came, begun_at, begun_in_order, begun_fast, begun_all, begun_try_none, begun_tries, begun_step_none, begun_step_some, hook_none, in_order_none, all_none, all_some, all_last}
use Rattle.ccr_steps.proofs.StepTrees.{tree_get, tree_put, tree_task, tree_do, tree_parallel, tree_try, tree_attempts, tree_hook}
use Rattle.ccr_steps.proofs.begin.+begins.Goals as goal

pub begin-returns-in-Task : goal.begin-returns-in-Task
begin-returns-in-Task t c =
    begun_at (tree_of c.args.step.now) (gains_data c.args.gains.now) c.args.frames.now.items c.args.frames.now.items c.begin_task.result (task (task_data c.in-Task.task)) (tree_task c.args.step.now c.in-Task.task c.in-Task.is)
    (subst (λ r. Came (λ i. play i (task (task_data c.in-Task.task)) (gains_data c.args.gains.now)) (task (task_data c.in-Task.task)) (gains_data c.args.gains.now) c.args.frames.now.items c.args.frames.now.items r) (sym c.begin_task.ensures) (came_task (task_data c.in-Task.task) (gains_data c.args.gains.now) c.args.frames.now.items))

pub begin-returns-in-Do : goal.begin-returns-in-Do
begin-returns-in-Do t c =
    IfOk-weaker c.begin_in_order.result _ _ (λ r came. begun_in_order (tree_of c.args.step.now) (gains_data c.args.gains.now) c.args.frames.now.items _ r c.deref.result.now (tree_do c.args.step.now c.in-Do.steps c.deref.result.now c.in-Do.is c.deref.ensures.value) came) c.begin_in_order.ensures

pub begin-returns-then-fail_fast : goal.begin-returns-then-fail_fast
begin-returns-then-fail_fast t c =
    IfOk-weaker c.begin_in_order-then-fail_fast.result _ _ (λ r came. begun_fast (tree_of c.args.step.now) (gains_data c.args.gains.now) c.args.frames.now.items _ r c.deref-then-fail_fast.result.now c.in-InParallel.fail_fast c.if-fail_fast.true (tree_parallel c.args.step.now c.in-InParallel.steps c.in-InParallel.fail_fast c.deref-then-fail_fast.result.now c.in-InParallel.is c.deref-then-fail_fast.ensures.value) came) c.begin_in_order-then-fail_fast.ensures

pub begin-returns-else-fail_fast : goal.begin-returns-else-fail_fast
begin-returns-else-fail_fast t c =
    IfOk-weaker c.begin_all.result _ _ (λ r came. begun_all (tree_of c.args.step.now) (gains_data c.args.gains.now) c.args.frames.now.items _ r c.deref-else-fail_fast.result.now c.in-InParallel.fail_fast c.if-fail_fast.false (tree_parallel c.args.step.now c.in-InParallel.steps c.in-InParallel.fail_fast c.deref-else-fail_fast.result.now c.in-InParallel.is c.deref-else-fail_fast.ensures.value) came) c.begin_all.ensures

pub begin-returns-in-None : goal.begin-returns-in-None
begin-returns-in-None t c =
    begun_try_none (tree_of c.args.step.now) (gains_data c.args.gains.now) c.args.frames.now.items _ c.in_ok-outcome-in-Try.field-0 (tree_of c.deref-in-Try.result.now) (tree_try c.args.step.now c.in-Try.inner c.deref-in-Try.result.now c.in-Try.is c.deref-in-Try.ensures) c.in-None.is c.in_ok-outcome-in-Try.ensures

pub begin-returns-in-Attempts : goal.begin-returns-in-Attempts
begin-returns-in-Attempts t c =
    IfOk-weaker c.begin_tries.result _ _ (λ r came. begun_tries (tree_of c.args.step.now) (gains_data c.args.gains.now) c.args.frames.now.items _ r c.in-Attempts.most c.saturating_sub-left.result (tree_of c.deref-in-Attempts.result.now) c.saturating_sub-left.ensures (tree_attempts c.args.step.now c.in-Attempts.most c.in-Attempts.inner c.deref-in-Attempts.result.now c.in-Attempts.is c.deref-in-Attempts.ensures) came) c.begin_tries.ensures

pub begin-returns-in-None-2 : goal.begin-returns-in-None-2
begin-returns-in-None-2 t c =
    begun_step_none (tree_of c.args.step.now) (gains_data c.args.gains.now) c.args.frames.now.items _ c.in_ok-outcome-in-Hook.field-0 c.in-Hook.when (tree_of c.deref-in-Hook.result.now) (tree_of c.in-Hook.hook.value) (tree_hook c.args.step.now c.in-Hook.when c.in-Hook.inner c.in-Hook.hook c.deref-in-Hook.result.now c.in-Hook.hook.value c.in-Hook.is c.deref-in-Hook.ensures refl) c.in-None-2.is c.in_ok-outcome-in-Hook.ensures

pub begin-returns-in-Some-2 : goal.begin-returns-in-Some-2
begin-returns-in-Some-2 t c =
    IfOk-weaker c.begin_hook.result _ _ (λ r came. begun_step_some (tree_of c.args.step.now) (gains_data c.args.gains.now) c.args.frames.now.items c.begin_under-in-Hook.new.frames.items _ c.in_ok-outcome-in-Hook.field-0 c.in-Hook.when (tree_of c.deref-in-Hook.result.now) (tree_of c.deref-in-Some-2.result.now) c.in-Some-2.outcome r (tree_hook c.args.step.now c.in-Hook.when c.in-Hook.inner c.in-Hook.hook c.deref-in-Hook.result.now c.deref-in-Some-2.result.now c.in-Hook.is c.deref-in-Hook.ensures c.deref-in-Some-2.ensures) c.in-Some-2.is c.in_ok-outcome-in-Hook.ensures came) c.begin_hook.ensures

pub begin-returns-in-Get : goal.begin-returns-in-Get
begin-returns-in-Get t c =
    begun_at (tree_of c.args.step.now) (gains_data c.args.gains.now) c.args.frames.now.items c.args.frames.now.items None (get (get_data c.in-Get._get)) (tree_get c.args.step.now c.in-Get._get c.in-Get.is) (came_get (get_data c.in-Get._get) (gains_data c.args.gains.now) c.args.frames.now.items)

pub begin-returns-in-Put : goal.begin-returns-in-Put
begin-returns-in-Put t c =
    begun_at (tree_of c.args.step.now) (gains_data c.args.gains.now) c.args.frames.now.items c.args.frames.now.items None (put (put_data c.in-Put._put)) (tree_put c.args.step.now c.in-Put._put c.in-Put.is) (came_put (put_data c.in-Put._put) (gains_data c.args.gains.now) c.args.frames.now.items)

pub begin_tries-returns : goal.begin_tries-returns
begin_tries-returns t c =
    IfOk-weaker c.begin_under.result _ _ (λ r came n. tries_came c.args.left (tree_of c.args.step.now) (gains_data c.args.gains.now) c.args.frames.now.items _ n r came) c.begin_under.ensures

pub begin_in_order-returns-in-None : goal.begin_in_order-returns-in-None
begin_in_order-returns-in-None t c =
    in_order_none c.args.steps.now c.loop-i.i c.index-steps-i.result c.loop-i-test.true c.index-steps-i.is (gains_data c.args.gains.now) c.args.frames.now.items _ c.in_ok-begin_under.field-0 (λ i. play_in_order i (trees_of (map tree_of (drop c.args.from c.args.steps.now))) (gains_data c.args.gains.now)) Succeeded c.loop-i.invariant.1 c.in-None.is (subst (λ l. CameUnder (At c.loop-i.i Succeeded) (λ i. play i (tree_of c.index-steps-i.result) (gains_data c.args.gains.now)) (tree_of c.index-steps-i.result) (gains_data c.args.gains.now) l c.begin_under.new.frames.items c.in_ok-begin_under.field-0) c.loop-i.invariant.0 c.in_ok-begin_under.ensures)

pub begin_all-returns-in-None : goal.begin_all-returns-in-None
begin_all-returns-in-None t c =
    all_none c.args.steps.now c.loop-i.i c.index-steps-i.result c.loop-i-test.true c.index-steps-i.is (gains_data c.args.gains.now) c.args.frames.now.items _ c.in_ok-begin_under.field-0 (λ i. and_then (play_all i (trees_of (map tree_of (drop c.args.from c.args.steps.now))) (gains_data c.args.gains.now)) (and_worse_end c.args.worst)) c.loop-i.worst c.loop-i.invariant.1 c.in-None.is (subst (λ l. CameUnder (At c.loop-i.i c.loop-i.worst) (λ i. play i (tree_of c.index-steps-i.result) (gains_data c.args.gains.now)) (tree_of c.index-steps-i.result) (gains_data c.args.gains.now) l c.begin_under.new.frames.items c.in_ok-begin_under.field-0) c.loop-i.invariant.0 c.in_ok-begin_under.ensures)

pub begin_all-returns-in-Some : goal.begin_all-returns-in-Some
begin_all-returns-in-Some t c =
    all_last c.args.steps.now c.loop-i.i c.index-steps-i.result c.loop-i-test.true c.index-steps-i.is (gains_data c.args.gains.now) c.args.frames.now.items c.begin_under.new.frames.items c.in_ok-begin_under.field-0 (λ i. and_then (play_all i (trees_of (map tree_of (drop c.args.from c.args.steps.now))) (gains_data c.args.gains.now)) (and_worse_end c.args.worst)) c.loop-i.worst c.in-Some.outcome (sym c.is_aborted.ensures ∙ c.if-is_aborted.true) c.loop-i.invariant.1 c.in-Some.is (subst (λ l. CameUnder (At c.loop-i.i c.loop-i.worst) (λ i. play i (tree_of c.index-steps-i.result) (gains_data c.args.gains.now)) (tree_of c.index-steps-i.result) (gains_data c.args.gains.now) l c.begin_under.new.frames.items c.in_ok-begin_under.field-0) c.loop-i.invariant.0 c.in_ok-begin_under.ensures)

pub begin_all-loop-i-preserved : goal.begin_all-loop-i-preserved
begin_all-loop-i-preserved t c =
    let got = all_some c.args.steps.now c.loop-i.i c.index-steps-i.result c.loop-i-test.true c.index-steps-i.is (gains_data c.args.gains.now) c.args.frames.now.items c.begin_under.new.frames.items c.in_ok-begin_under.field-0 (λ i. and_then (play_all i (trees_of (map tree_of (drop c.args.from c.args.steps.now))) (gains_data c.args.gains.now)) (and_worse_end c.args.worst)) c.loop-i.worst c.in-Some.outcome (sym c.is_aborted.ensures ∙ c.if-is_aborted.false) c.loop-i.invariant.1 c.in-Some.is (subst (λ l. CameUnder (At c.loop-i.i c.loop-i.worst) (λ i. play i (tree_of c.index-steps-i.result) (gains_data c.args.gains.now)) (tree_of c.index-steps-i.result) (gains_data c.args.gains.now) l c.begin_under.new.frames.items c.in_ok-begin_under.field-0) c.loop-i.invariant.0 c.in_ok-begin_under.ensures) in
    (got.0, λ i. got.1 i ∙ ap (λ w. and_then (play_all i (trees_of (map tree_of (drop (c.loop-i.i + 1) c.args.steps.now))) (gains_data c.args.gains.now)) (and_worse_end w)) (sym c.worse-worst.ensures))

pub begin_hook-returns-in-None : goal.begin_hook-returns-in-None
begin_hook-returns-in-None t c = λ u. hook_none c.args.when (tree_of c.args.hook.now) u c.args.outcome (gains_data c.args.gains.now) c.args.frames.now.items _ c.in_ok-end.field-0 (sym c.runs_after.ensures ∙ c.if-not-runs_after.false) c.in-None.is c.in_ok-end.ensures
