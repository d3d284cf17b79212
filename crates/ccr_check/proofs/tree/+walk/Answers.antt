use Rattle.std.proofs.Common.{◌<◌, ◌≡◌, length, get_or, slice_get, ◌+◌, inl, inr, refl, sym, ap, ◌∙◌, subst, arith, Some, option_copied}
use Rattle.std.proofs.lemmas.Option.{slice_get-get_or, get_or_from_slice_get}
use Rattle.std.proofs.lemmas.Result.{err_from_is_err_and}
use Rattle.ccr_choice.specs.Problem.{builds_at}
use Rattle.ccr_choice.specs.Preference.{order_of}
use Rattle.ccr_choice.specs.Assignment.{Assignment}
use Rattle.ccr_proof.specs.Tree.{tree_of, trees_of}
use Rattle.ccr_proof.specs.Refutes.{Refutes}
use Rattle.ccr_proof.proofs.Trees.{tree_is, count_is}
use Rattle.ccr_check.specs.Fault.{IsFirstFault}
use Rattle.ccr_choice.specs.Table.{assigned}
use Rattle.ccr_check.proofs.Walk.{no_build, same_count, is_free, wrong_children, start_refuted, start_faulty, child_count, step_refuted, here_faulty, step_faulty}
use Rattle.ccr_choice.proofs.TableLaws.{table_set}
use Rattle.ccr_check.proofs.tree.+walk.Goals as goal

pub returns-then-children-builds : goal.returns-then-children-builds
returns-then-children-builds t c =
    let a = assigned c.args.problem.now c.args.fixed.now in
    let root = tree_is c.args.tree.now c.in-Job.named c.in-Job.children c.deref-children.result.now c.in-Job.is c.deref-children.ensures.value in
    wrong_children c.args.problem.now (option_copied c.args.bound) a c.in-Job.named c.args.node (tree_of c.args.tree.now) c.deref-children.result.now root
    (omega (arith, ap length c.jobs.ensures.value)) (is_free c.fixed_build.result (a c.in-Job.named) c.fixed_build.ensures.value (cc (c.is_some.ensures, c.if-is_some.false)))
    (λ e. c.if-children-builds.true (e ∙ ap length (sym c.builds.ensures.value)))

pub loop-k-init : goal.loop-k-init
loop-k-init t c =
    let a = assigned c.args.problem.now c.args.fixed.now in
    let root = tree_is c.args.tree.now c.in-Job.named c.in-Job.children c.deref-children.result.now c.in-Job.is c.deref-children.ensures.value in
    let free = is_free c.fixed_build.result (a c.in-Job.named) c.fixed_build.ensures.value (cc (c.is_some.ensures, c.if-is_some.false)) in
    let counted = count_is c.args.tree.now c.in-Job.named c.in-Job.children c.deref-children.result.now c.in-Job.is c.deref-children.ensures.value in
    let within : c.in-Job.named < length c.args.problem.now.jobs = omega (arith, ap length c.jobs.ensures.value) in
    record {
      counted = omega (arith, counted);
      refuted = start_refuted c.args.problem.now (option_copied c.args.bound) a c.in-Job.named (tree_of c.args.tree.now) c.deref-children.result.now (builds_at c.args.problem.now c.in-Job.named) root refl within free;
      faulty = λ f. start_faulty c.args.problem.now (option_copied c.args.bound) a c.in-Job.named c.args.node (tree_of c.args.tree.now) c.deref-children.result.now (builds_at c.args.problem.now c.in-Job.named) f root refl within free
          (c.if-children-builds.false ∙ ap length c.builds.ensures.value);
    }

pub returns-in_err-next-in-Job : goal.returns-in_err-next-in-Job
returns-in_err-next-in-Job t c =
    let p = c.args.problem.now in
    let j = c.in-Job.named in
    let k = c.loop-k.k in
    let a = assigned p c.args.fixed.now in
    let cs = c.deref-children.result.now in
    let bs = builds_at p j in
    let in_bs : k < length bs = omega (arith, c.if-children-builds.false, ap length c.builds.ensures.value) in
    let b = get_or bs k no_build in
    let at : slice_get bs k ≡ Some b = slice_get-get_or bs k no_build in_bs in
    let b_at : b ≡ get_or bs k b = sym (get_or_from_slice_get bs k b b at) in
    let set = table_set p c.args.fixed.now j k b (omega (arith, c.told-fixed, c.jobs.ensures.few)) at in
    let P : Assignment → Type 0 = λ x. IsFirstFault (order_of p) p (option_copied c.args.bound) x c.loop-k.next (tree_of c.index-children-k.result) c.in_err-next-in-Job.field-0.0 in
    let here = here_faulty p (option_copied c.args.bound) a j k cs bs c.index-children-k.result b (omega arith) in_bs c.index-children-k.is b_at
    c.loop-k.next c.in_err-next-in-Job.field-0.0 (λ h. absurd (cc ((c.is_same.ensures b at).1 h, c.if-is_same.false))) (subst P set c.in_err-next-in-Job.ensures) in
    let r = err_from_is_err_and c.from_residual.result c.from_residual.ensures.1 in
    rw (r.1, r.2) (c.loop-k.invariant.faulty c.in_err-next-in-Job.field-0.0 here)

pub loop-k-preserved : goal.loop-k-preserved
loop-k-preserved t c =
    let p = c.args.problem.now in
    let j = c.in-Job.named in
    let k = c.loop-k.k in
    let a = assigned p c.args.fixed.now in
    let cs = c.deref-children.result.now in
    let bs = builds_at p j in
    let in_bs : k < length bs = omega (arith, c.if-children-builds.false, ap length c.builds.ensures.value) in
    let in_cs : k < length cs = omega arith in
    let b = get_or bs k no_build in
    let at : slice_get bs k ≡ Some b = slice_get-get_or bs k no_build in_bs in
    let b_at : b ≡ get_or bs k b = sym (get_or_from_slice_get bs k b b at) in
    let set = table_set p c.args.fixed.now j k b (omega (arith, c.told-fixed, c.jobs.ensures.few)) at in
    let P : Assignment → Type 0 = λ x. Refutes (order_of p) p (option_copied c.args.bound) x (tree_of c.index-children-k.result) in
    let refutes = subst P set c.in_ok-next-in-Job.ensures.1 in
    let counted = child_count p (option_copied c.args.bound) a j k cs bs c.index-children-k.result b in_cs in_bs c.index-children-k.is b_at in
    record {
      counted = omega (arith, c.loop-k.invariant.counted, counted, c.in_ok-next-in-Job.ensures.0);
      refuted = λ h. c.loop-k.invariant.refuted (step_refuted p (option_copied c.args.bound) a j k cs bs c.index-children-k.result b in_cs in_bs c.index-children-k.is b_at (inl refutes) h);
      faulty = λ f h. c.loop-k.invariant.faulty f (step_faulty p (option_copied c.args.bound) a j k cs bs c.index-children-k.result b in_cs in_bs c.index-children-k.is b_at c.loop-k.next c.in_ok-next-in-Job.next f c.in_ok-next-in-Job.ensures.0 (inl refutes) h);
    }

pub overflow_add-next-then-is_same : goal.overflow_add-next-then-is_same
overflow_add-next-then-is_same t c =
    let p = c.args.problem.now in
    let j = c.in-Job.named in
    let k = c.loop-k.k in
    let a = assigned p c.args.fixed.now in
    let cs = c.deref-children.result.now in
    let bs = builds_at p j in
    let in_bs : k < length bs = omega (arith, c.if-children-builds.false, ap length c.builds.ensures.value) in
    let in_cs : k < length cs = omega arith in
    let b = get_or bs k no_build in
    let at : slice_get bs k ≡ Some b = slice_get-get_or bs k no_build in_bs in
    let b_at : b ≡ get_or bs k b = sym (get_or_from_slice_get bs k b b at) in
    let counted = child_count p (option_copied c.args.bound) a j k cs bs c.index-children-k.result b in_cs in_bs c.index-children-k.is b_at in
    let one = same_count p j (trees_of cs) k b (tree_of c.index-children-k.result) ((c.is_same.ensures b at).0 (cc (c.if-is_same.true))) in
    omega (arith, c.loop-k.invariant.counted, counted, one, c.requires)

pub loop-k-preserved-then-is_same : goal.loop-k-preserved-then-is_same
loop-k-preserved-then-is_same t c =
    let p = c.args.problem.now in
    let j = c.in-Job.named in
    let k = c.loop-k.k in
    let a = assigned p c.args.fixed.now in
    let cs = c.deref-children.result.now in
    let bs = builds_at p j in
    let in_bs : k < length bs = omega (arith, c.if-children-builds.false, ap length c.builds.ensures.value) in
    let in_cs : k < length cs = omega arith in
    let b = get_or bs k no_build in
    let at : slice_get bs k ≡ Some b = slice_get-get_or bs k no_build in_bs in
    let b_at : b ≡ get_or bs k b = sym (get_or_from_slice_get bs k b b at) in
    let counted = child_count p (option_copied c.args.bound) a j k cs bs c.index-children-k.result b in_cs in_bs c.index-children-k.is b_at in
    let same = (c.is_same.ensures b at).0 (cc (c.if-is_same.true)) in
    let one = same_count p j (trees_of cs) k b (tree_of c.index-children-k.result) same in
    record {
      counted = omega (arith, c.loop-k.invariant.counted, counted, one);
      refuted = λ h. c.loop-k.invariant.refuted (step_refuted p (option_copied c.args.bound) a j k cs bs c.index-children-k.result b in_cs in_bs c.index-children-k.is b_at (inr same) h);
      faulty = λ f h. c.loop-k.invariant.faulty f (step_faulty p (option_copied c.args.bound) a j k cs bs c.index-children-k.result b in_cs in_bs c.index-children-k.is b_at c.loop-k.next (c.loop-k.next + 1) f (omega (arith, one)) (inr same) h);
    }
