-- An abort leaves only hooks to run.
use Rattle.std.proofs.Common.{◌≡◌, ◌⊎◌, inl, inr, ℕ, zero, suc, ◌-◌, Bool, true, false, List, [], ◌∷◌, ◌++◌, Option, Some, None, refl, sym, ap, ◌∙◌, subst, append_assoc, append-nil}
use Rattle.std.specs.Option.{IfSome}
use Rattle.ccr_history.specs.TextMap.{TextMap}
use Rattle.ccr_pipeline.specs.Tree.{Text, ConfigData, PutData, SourceData, config, file, Tree, Trees, get, put, task, in_order, in_parallel, tried, attempts, hook, no_trees, tree}
use Rattle.ccr_steps.specs.declared.outcome.Outcome.{Outcome}
use Rattle.ccr_steps.specs.declared.outcome.Outcome.TheVariants.{Succeeded, Failed, Errored, Aborted}
use Rattle.ccr_steps.specs.Aborts.{IsHookOf, IsHookIn, OfHooks, AreOfHooks, HasAbort, AfterAborts, LeavesHooks}
use Rattle.ccr_steps.specs.Asks.{AskData, read_config, run_task, AnswerData, done, pushed, configured, failed, errored, aborted, Exchange, Chosen, get_ask, put_ask, pushed_ask}
use Rattle.ccr_steps.specs.Gains.{GainsData, no_gains, register, register_all, move, same, has_inputs}
use Rattle.ccr_steps.specs.Means.{Meaning, Ends, Asks, Joined, worse, runs_after, got, AfterFetch, AfterPushed, AfterPush, AfterRun, RunsIf, Runs, AfterRead, TaskBy, AfterDo, AndWorse, AfterParallel, AfterTry, AfterAttempt, Tries, HookIf, AfterHooked, Either, Means, InOrder, AllOf}
use Rattle.ccr_steps.specs.Progress.{IsOutcome}
use Rattle.ccr_steps.proofs.Joining.{worse_aborted}

of_either : (A B R : Type 0) → (A → R) → (B → R) → A ⊎ B → R
of_either A B R f g (inl a) = f a
of_either A B R f g (inr b) = g b

-- an abort of a list is one of its front or of its back
abort_of : (xs ys : List Exchange) (R : Type 0) → (HasAbort xs → R) → (HasAbort ys → R) → HasAbort (xs ++ ys) → R
abort_of [] ys R f g h = g h
abort_of (x ∷ xs) ys R f g (inl e) = f (inl e)
abort_of (x ∷ xs) ys R f g (inr h) = abort_of xs ys R (λ k. f (inr k)) g h

module _ (c : Chosen) (H : Tree → Type 0) where
  none : AreOfHooks c H []
  none = (zero, refl)

  hooks_join : (n : ℕ) (xs ys : List Exchange) → OfHooks n c H xs → AreOfHooks c H ys → AreOfHooks c H (xs ++ ys)
  hooks_join zero xs ys e h = subst (λ l. AreOfHooks c H (l ++ ys)) (sym e) h
  hooks_join (suc n) xs ys (front, back, e, one, rest) h =
      let (m, more) = hooks_join n back ys rest h in
      (suc m, (front, back ++ ys, ap (λ l. l ++ ys) e ∙ append_assoc front back ys, one, more))

  after_join : (xs ys : List Exchange) → AfterAborts (AreOfHooks c H) xs → (HasAbort xs → AreOfHooks c H ys) → AfterAborts (AreOfHooks c H) ys → AfterAborts (AreOfHooks c H) (xs ++ ys)
  after_join [] ys a h b = b
  after_join (x ∷ xs) ys a h b = (λ e. let (n, p) = a.0 e in hooks_join n xs ys p (h (inl e)), after_join xs ys a.1 (λ k. h (inr k)) b)

  -- after an abort in it only hooks run, and it is aborted
  abbrev Leaves : Meaning → Type 0
  Leaves A = (g : GainsData) (es : List Exchange) (o : Outcome) (g' : GainsData) → A g es o g' → AfterAborts (AreOfHooks c H) es × (HasAbort es → o ≡ Aborted)

  -- after an abort before it only hooks run, and it is aborted
  abbrev Last : Meaning → Type 0
  Last A = (g : GainsData) (es : List Exchange) (o : Outcome) (g' : GainsData) → A g es o g' → AreOfHooks c H es × (o ≡ Aborted)

  ends : (end : Outcome) (gain : GainsData → GainsData) → Leaves (Ends end gain)
  ends end gain g [] o g' h = (tt, λ a. absurd a)
  ends end gain g (e ∷ es) o g' h = absurd (cc (h.0))

  last : (end : Outcome) → end ≡ Aborted → Last (Ends end same)
  last end is g es o g' h = (subst (AreOfHooks c H) (sym h.0) none, h.1 ∙ is)

  asked : (ask : AskData) (then : AnswerData → Meaning) → ((x : AnswerData) → Leaves (then x)) → Last (then aborted) → Leaves (Asks ask then)
  asked ask then each end g es o g' (x, rest, is, after) =
      let (hooks, out) = each x g rest o g' after in
      let now : x ≡ aborted → AreOfHooks c H rest × (o ≡ Aborted) = λ e. end g rest o g' (subst (λ y. then y g rest o g') e after) in
      subst (λ l. AfterAborts (AreOfHooks c H) l × (HasAbort l → o ≡ Aborted)) (sym is) ((λ e. (now e).0, hooks), of_either (x ≡ aborted) (HasAbort rest) (o ≡ Aborted) (λ e. (now e).1) out)

  joined : (A : Meaning) (B : Outcome → Meaning) → Leaves A → ((o : Outcome) → Leaves (B o)) → Last (B Aborted) → Leaves (Joined A B)
  joined A B first then end g es o g' (front, back, mid, between, is, a, b) =
      let (hooks, out) = first g front mid between a in
      let (more, also) = then mid between back o g' b in
      let now : HasAbort front → AreOfHooks c H back × (o ≡ Aborted) = λ h. end between back o g' (subst (λ m. B m between back o g') (out h) b) in
      subst (λ l. AfterAborts (AreOfHooks c H) l × (HasAbort l → o ≡ Aborted)) (sym is) (after_join front back hooks (λ h. (now h).0) more, abort_of front back (o ≡ Aborted) (λ h. (now h).1) also)

  fetched : (gain : GainsData → GainsData) (x : AnswerData) → Leaves (AfterFetch gain x)
  fetched gain done = ends Succeeded gain
  fetched gain (pushed v) = ends Errored same
  fetched gain (configured k) = ends Errored same
  fetched gain failed = ends Failed same
  fetched gain errored = ends Errored same
  fetched gain aborted = ends Aborted same

  pushed_on : (b : Bool) (p : PutData) (v : TextMap) → Leaves (AfterPushed b p v)
  pushed_on true p v g = ends Succeeded (move p.resource v) g
  pushed_on false p v g = asked (pushed_ask p v) (AfterFetch (register p.name)) (fetched (register p.name)) (last Aborted refl) (move p.resource v g)

  push_ended : (p : PutData) (x : AnswerData) → Leaves (AfterPush p x)
  push_ended p done = ends Errored same
  push_ended p (pushed v) = pushed_on p.no_get p v
  push_ended p (configured k) = ends Errored same
  push_ended p failed = ends Failed same
  push_ended p errored = ends Errored same
  push_ended p aborted = ends Aborted same

  ran : (outputs : List Text) (x : AnswerData) → Leaves (AfterRun outputs x)
  ran outputs done = ends Succeeded (register_all outputs)
  ran outputs (pushed v) = ends Errored same
  ran outputs (configured k) = ends Errored same
  ran outputs failed = ends Failed (register_all outputs)
  ran outputs errored = ends Errored same
  ran outputs aborted = ends Aborted same

  runs_when : (b : Bool) (k : ConfigData) (env : List (Text × Text)) → Leaves (RunsIf b k env)
  runs_when true k env = asked (run_task k env) (AfterRun k.outputs) (ran k.outputs) (last Aborted refl)
  runs_when false k env = ends Errored same

  running_of : (k : ConfigData) (env : List (Text × Text)) → Leaves (Runs k env)
  running_of k env g = runs_when (has_inputs k.inputs g) k env g

  read_ended : (env : List (Text × Text)) (x : AnswerData) → Leaves (AfterRead env x)
  read_ended env done = ends Errored same
  read_ended env (pushed v) = ends Errored same
  read_ended env (configured k) = running_of k env
  read_ended env failed = ends Errored same
  read_ended env errored = ends Errored same
  read_ended env aborted = ends Aborted same

  task_of : (s : SourceData) (env : List (Text × Text)) → Leaves (TaskBy s env)
  task_of (config k) env = running_of k env
  task_of (file path) env = asked (read_config path) (AfterRead env) (read_ended env) (last Aborted refl)

  did : (A : Meaning) → Leaves A → (o : Outcome) → Leaves (AfterDo A o)
  did A h Succeeded = h
  did A h Failed = ends Failed same
  did A h Errored = ends Errored same
  did A h Aborted = ends Aborted same

  worse_of : (A : Meaning) → Leaves A → (o : Outcome) → Leaves (AndWorse A o)
  worse_of A h o = joined A (λ rest. Ends (worse o rest) same) h (λ rest. ends (worse o rest) same) (last (worse o Aborted) (worse_aborted o))

  did_parallel : (A : Meaning) → Leaves A → (o : Outcome) → Leaves (AfterParallel A o)
  did_parallel A h Succeeded = worse_of A h Succeeded
  did_parallel A h Failed = worse_of A h Failed
  did_parallel A h Errored = worse_of A h Errored
  did_parallel A h Aborted = ends Aborted same

  did_try : (o : Outcome) → Leaves (AfterTry o)
  did_try Succeeded = ends Succeeded same
  did_try Failed = ends Succeeded same
  did_try Errored = ends Succeeded same
  did_try Aborted = ends Aborted same

  did_attempt : (A : Meaning) → Leaves A → (o : Outcome) → Leaves (AfterAttempt A o)
  did_attempt A h Succeeded = ends Succeeded same
  did_attempt A h Failed = h
  did_attempt A h Errored = h
  did_attempt A h Aborted = ends Aborted same

  tries_of : (n : ℕ) (A : Meaning) → Leaves A → Leaves (Tries n A)
  tries_of zero A h = h
  tries_of (suc n) A h = joined A (AfterAttempt (Tries n A)) h (did_attempt (Tries n A) (tries_of n A h)) (last Aborted refl)

  hooked_if : (b : Bool) (A : Meaning) → Leaves A → (o : Outcome) → Leaves (HookIf b A o)
  hooked_if true A h o = worse_of A h o
  hooked_if false A h o = ends o same

  -- the hook of a step that was aborted
  hook_last : (b : Bool) (h : Tree) → H h → Last (HookIf b (Means c h) Aborted)
  hook_last false h is g es o g' e = last Aborted refl g es o g' e
  hook_last true h is g es o g' (front, back, rest, between, cut, m, e) =
      let whole : es ≡ front = cut ∙ ap (λ l. front ++ l) e.0 ∙ append-nil front in
      let one : AreOfHooks c H front = (suc zero, (front, [], sym (append-nil front), (h, g, rest, between, is, m), refl)) in
      (subst (AreOfHooks c H) (sym whole) one, e.1)

  either_of : (b : Bool) (A B : Meaning) → Leaves A → Leaves B → Leaves (Either b A B)
  either_of true A B a b = a
  either_of false A B a b = b

  mutual
    leaves : (t : Tree) → ((h : Tree) → IsHookOf t h → H h) → Leaves (Means c t)
    leaves (get d) known = asked (get_ask c d) (AfterFetch (got c d)) (fetched (got c d)) (last Aborted refl)
    leaves (put p) known = asked (put_ask p) (AfterPush p) (push_ended p) (last Aborted refl)
    leaves (task t) known = task_of t.source t.params
    leaves (in_order ts) known = in_order_leaves ts known
    leaves (in_parallel ts fast) known = either_of fast (InOrder c ts) (AllOf c ts) (in_order_leaves ts known) (all_of_leaves ts known)
    leaves (tried t) known = joined (Means c t) AfterTry (leaves t known) did_try (last Aborted refl)
    leaves (attempts n t) known = tries_of (n - 1) (Means c t) (leaves t known)
    leaves (hook w t h) known =
        joined (Means c t) (AfterHooked w (Means c h)) (leaves t (λ k is. known k (inr (inl is))))
        (λ o. hooked_if (runs_after w o) (Means c h) (leaves h (λ k is. known k (inr (inr is)))) o)
        (hook_last (runs_after w Aborted) h (known h (inl refl)))

    in_order_leaves : (ts : Trees) → ((h : Tree) → IsHookIn ts h → H h) → Leaves (InOrder c ts)
    in_order_leaves no_trees known = ends Succeeded same
    in_order_leaves (tree t ts) known = joined (Means c t) (AfterDo (InOrder c ts)) (leaves t (λ k is. known k (inl is))) (did (InOrder c ts) (in_order_leaves ts (λ k is. known k (inr is)))) (last Aborted refl)

    all_of_leaves : (ts : Trees) → ((h : Tree) → IsHookIn ts h → H h) → Leaves (AllOf c ts)
    all_of_leaves no_trees known = ends Succeeded same
    all_of_leaves (tree t ts) known = joined (Means c t) (AfterParallel (AllOf c ts)) (leaves t (λ k is. known k (inl is))) (did_parallel (AllOf c ts) (all_of_leaves ts (λ k is. known k (inr is)))) (last Aborted refl)

-- the same, of how a list ended
pub leaves_hooks : (c : Chosen) (t : Tree) (es : List Exchange) (o : Option Outcome) → IsOutcome c t es o → IfSome o (LeavesHooks c t es)
leaves_hooks c t es None h = tt
leaves_hooks c t es (Some o) (g, m) = leaves c (IsHookOf t) t (λ h is. is) no_gains es o g m
