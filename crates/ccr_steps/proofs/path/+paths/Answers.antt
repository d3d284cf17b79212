use Rattle.std.proofs.Common.{◌<◌, length, drop, map, arith, refl, sym, ap, ◌∙◌}
use Rattle.ccr_pipeline.specs.Tree.{tree_of, trees_of}
use Rattle.ccr_steps.specs.FrameKinds.{at_frame, is_in_frame, left_frame, hook_frame}
use Rattle.ccr_steps.specs.Frames.{leaf_at}
use Rattle.ccr_steps.proofs.Paths.{at_there, in_there, left_there, hook_there, try_lost, tries_lost, hook_lost, list_lost}
use Rattle.ccr_steps.proofs.Advances.{past_steps, down_try, down_tries, down_step, down_hook, down_list}
use Rattle.ccr_steps.proofs.StepTrees.{tree_try, tree_attempts, tree_hook}
use Rattle.ccr_steps.proofs.path.+paths.Goals as goal

pub leaf_at-returns-then-not-is_in : goal.leaf_at-returns-then-not-is_in
leaf_at-returns-then-not-is_in t c =
    sym (ap (λ x. leaf_at x (drop c.args.level c.args.frames.now)) (tree_try c.args.step.now c.in-Try.inner c.in-Try.inner.value c.in-Try.is refl) ∙ (try_lost c.args.frames.now c.args.level (tree_of c.in-Try.inner.value) (sym (ap is_in_frame c.frame_at.ensures.value) ∙ sym c.is_in.ensures.value ∙ c.if-not-is_in.true)).0)

pub leaf_at-returns-else-not-is_in : goal.leaf_at-returns-else-not-is_in
leaf_at-returns-else-not-is_in t c =
    c.leaf_at.ensures ∙ sym (ap (λ x. leaf_at x (drop c.args.level c.args.frames.now)) (tree_try c.args.step.now c.in-Try.inner c.deref-in-Try.result.now c.in-Try.is c.deref-in-Try.ensures) ∙ down_try (tree_of c.deref-in-Try.result.now) c.args.frames.now c.args.level (sym c.frame_at.ensures.value ∙ in_there _ (sym c.is_in.ensures.value ∙ c.if-not-is_in.false)))

pub leaf_at-returns-in_default : goal.leaf_at-returns-in_default
leaf_at-returns-in_default t c =
    sym (ap (λ x. leaf_at x (drop c.args.level c.args.frames.now)) (tree_attempts c.args.step.now c.in-Attempts._most c.in-Attempts.inner c.in-Attempts.inner.value c.in-Attempts.is refl) ∙ (tries_lost c.args.frames.now c.args.level c.in-Attempts._most (tree_of c.in-Attempts.inner.value) (sym (ap left_frame c.frame_at-in-Attempts.ensures.value) ∙ sym c.left_in.ensures.value ∙ c.in_default.is)).0)

pub leaf_at-returns-in-Some : goal.leaf_at-returns-in-Some
leaf_at-returns-in-Some t c =
    c.leaf_at-in-Attempts.ensures ∙ sym (ap (λ x. leaf_at x (drop c.args.level c.args.frames.now)) (tree_attempts c.args.step.now c.in-Attempts._most c.in-Attempts.inner c.deref-in-Attempts.result.now c.in-Attempts.is c.deref-in-Attempts.ensures) ∙ down_tries c.in-Some._left c.in-Attempts._most (tree_of c.deref-in-Attempts.result.now) c.args.frames.now c.args.level (sym c.frame_at-in-Attempts.ensures.value ∙ left_there _ c.in-Some._left (sym c.left_in.ensures.value ∙ c.in-Some.is)))

pub leaf_at-returns-then-is_in : goal.leaf_at-returns-then-is_in
leaf_at-returns-then-is_in t c =
    c.leaf_at-then-is_in.ensures ∙ sym (ap (λ x. leaf_at x (drop c.args.level c.args.frames.now)) (tree_hook c.args.step.now c.in-Hook._when c.in-Hook.inner c.in-Hook.hook c.deref-then-is_in.result.now c.in-Hook.hook.value c.in-Hook.is c.deref-then-is_in.ensures refl) ∙ down_step c.in-Hook._when (tree_of c.deref-then-is_in.result.now) (tree_of c.in-Hook.hook.value) c.args.frames.now c.args.level (sym c.frame_at-frame.ensures.value ∙ in_there _ (sym c.is_in-in-Hook.ensures.value ∙ c.if-is_in.true)))

pub leaf_at-returns-in_default-hook_in : goal.leaf_at-returns-in_default-hook_in
leaf_at-returns-in_default-hook_in t c =
    sym (ap (λ x. leaf_at x (drop c.args.level c.args.frames.now)) (tree_hook c.args.step.now c.in-Hook._when c.in-Hook.inner c.in-Hook.hook c.in-Hook.inner.value c.in-Hook.hook.value c.in-Hook.is refl refl) ∙ (hook_lost c.args.frames.now c.args.level c.in-Hook._when (tree_of c.in-Hook.inner.value) (tree_of c.in-Hook.hook.value) (sym (ap is_in_frame c.frame_at-frame.ensures.value) ∙ sym c.is_in-in-Hook.ensures.value ∙ c.if-is_in.false) (sym (ap hook_frame c.frame_at-frame.ensures.value) ∙ sym c.hook_in.ensures.value ∙ c.in_default-hook_in.is)).0)

pub leaf_at-returns-in-Some-hook_in : goal.leaf_at-returns-in-Some-hook_in
leaf_at-returns-in-Some-hook_in t c =
    c.leaf_at-in-Hook.ensures ∙ sym (ap (λ x. leaf_at x (drop c.args.level c.args.frames.now)) (tree_hook c.args.step.now c.in-Hook._when c.in-Hook.inner c.in-Hook.hook c.in-Hook.inner.value c.deref-in-Hook.result.now c.in-Hook.is refl c.deref-in-Hook.ensures) ∙ down_hook c.in-Hook._when (tree_of c.in-Hook.inner.value) (tree_of c.deref-in-Hook.result.now) c.in-Some-hook_in._outcome c.args.frames.now c.args.level (sym c.frame_at-frame.ensures.value ∙ hook_there _ c.in-Some-hook_in._outcome (sym c.hook_in.ensures.value ∙ c.in-Some-hook_in.is)))

pub leaf_in-returns-in_default : goal.leaf_in-returns-in_default
leaf_in-returns-in_default t c =
    sym ((list_lost c.args.frames.now c.args.level (trees_of (map tree_of c.args.steps.now)) (sym (ap at_frame c.frame_at.ensures.value) ∙ sym c.place_in.ensures.value ∙ c.in_default.is)).0)

pub leaf_in-returns-then-k-steps : goal.leaf_in-returns-then-k-steps
leaf_in-returns-then-k-steps t c =
    sym ((past_steps c.args.frames.now c.args.level c.args.steps.now c.in-Some.k c.in-Some._worst (sym c.frame_at.ensures.value ∙ at_there _ c.in-Some.k c.in-Some._worst (sym c.place_in.ensures.value ∙ c.in-Some.is)) (omega arith)).0)

pub leaf_in-returns : goal.leaf_in-returns
leaf_in-returns t c =
    let l : c.in-Some.k < length c.args.steps.now = omega arith in c.leaf_at.ensures ∙ sym (down_list c.args.steps.now c.in-Some.k c.index-steps-k.result c.in-Some._worst l c.index-steps-k.is c.args.frames.now c.args.level (sym c.frame_at.ensures.value ∙ at_there _ c.in-Some.k c.in-Some._worst (sym c.place_in.ensures.value ∙ c.in-Some.is)))
