-- Each fetch of a build is of an input's version, or of a version that it pushed before.
use Rattle.std.proofs.Common.{◌≡◌, ℕ, zero, suc, ◌-◌, ◌⊎◌, inl, inr, Bool, true, false, List, [], ◌∷◌, ◌++◌, refl, sym, subst, append_assoc}
use Rattle.std.specs.Prelude.{⊤}
use Rattle.std.proofs.lemmas.List.{append-nil}
use Rattle.ccr_history.specs.TextMap.{TextMap}
use Rattle.ccr_pipeline.specs.declared.step.When.{When}
use Rattle.ccr_pipeline.specs.declared.step.When.TheVariants.{OnError, OnAbort}
use Rattle.ccr_pipeline.specs.Inputs.{InputData, input_from, inputs, inputs_in}
use Rattle.ccr_pipeline.specs.Tree.{Text, ConfigData, PutData, SourceData, config, file, Tree, Trees, get, put, task, in_order, in_parallel, tried, attempts, hook, no_trees, tree}
use Rattle.ccr_steps.specs.declared.outcome.Outcome.{Outcome}
use Rattle.ccr_steps.specs.declared.outcome.Outcome.TheVariants.{Succeeded, Failed, Errored, Aborted}
use Rattle.ccr_steps.specs.Asks.{AskData, fetch, push, read_config, run_task, AnswerData, done, pushed, configured, failed, errored, aborted, Exchange, exchange, Chosen, version_of, get_ask, put_ask, pushed_ask}
use Rattle.ccr_steps.specs.Gains.{GainsData, no_gains, register, register_all, same, move, has_inputs}
use Rattle.ccr_steps.specs.Means.{worse, runs_after, Meaning, Ends, Asks, Joined, AfterFetch, got, AfterPushed, AfterPush, AfterRun, RunsIf, Runs, AfterRead, TaskBy, AfterDo, AndWorse, AfterParallel, AfterTry, AfterAttempt, Tries, HookIf, AfterHooked, Either, Means, InOrder, AllOf}
use Rattle.ccr_steps.specs.Fetches.{IsOfInput, WasPushed, FetchesItsOwn}
use Rattle.ccr_steps.proofs.Among.{Among, contains_from, among_left, among_right}

-- what one of the inputs has, the whole has
module _ (c : Chosen) (G : Text → Text → TextMap → Type 0) where
  -- an ask, with the exchanges before it: a fetch is of an input, or of what was pushed
  abbrev IsOwn : List Exchange → AskData → Type 0
  IsOwn before (fetch artifact resource v params) = G artifact resource v ⊎ WasPushed before resource v
  IsOwn before (push artifact resource params) = ⊤
  IsOwn before (read_config path) = ⊤
  IsOwn before (run_task k env) = ⊤

  -- each of these exchanges is so, behind those before them
  abbrev pub AreOwn : List Exchange → List Exchange → Type 0
  AreOwn before [] = ⊤
  AreOwn before (e ∷ es) = IsOwn before e.ask × AreOwn (before ++ e ∷ []) es

  own_join : (before front back : List Exchange) → AreOwn before front → AreOwn (before ++ front) back → AreOwn before (front ++ back)
  own_join before [] back h k = subst (λ l. AreOwn l back) (append-nil before) k
  own_join before (e ∷ front) back (now, h) k = (now, own_join (before ++ e ∷ []) front back h (subst (λ l. AreOwn l back) (sym (append_assoc before (e ∷ []) front)) k))

  pub own_last : (before front : List Exchange) (e : Exchange) (rest : List Exchange) → AreOwn before ((front ++ e ∷ []) ++ rest) → IsOwn (before ++ front) e.ask
  own_last before [] e rest (now, more) = subst (λ l. IsOwn l e.ask) (sym (append-nil before)) now
  own_last before (f ∷ front) e rest (now, more) = subst (λ l. IsOwn l e.ask) (append_assoc before (f ∷ []) front) (own_last (before ++ f ∷ []) front e rest more)

  -- every list that a meaning allows is so, where this holds of the exchanges before it
  abbrev Keeps : (List Exchange → Type 0) → Meaning → Type 0
  Keeps B A = (before : List Exchange) → B before → (g : GainsData) (es : List Exchange) (o : Outcome) (g' : GainsData) → A g es o g' → AreOwn before es

  abbrev Any : List Exchange → Type 0
  Any l = ⊤

  abbrev Always : Meaning → Type 0
  Always A = Keeps (λ _. ⊤) A

  ends : (end : Outcome) (gain : GainsData → GainsData) → Always (Ends end gain)
  ends end gain before b g es o g' (e, f, is) = subst (AreOwn before) (sym e) tt

  asked : (B : List Exchange → Type 0) (ask : AskData) (then : AnswerData → Meaning) → ((before : List Exchange) → B before → IsOwn before ask) → ((x : AnswerData) → Keeps (λ l. Among l (exchange ask x)) (then x)) → Keeps B (Asks ask then)
  asked B ask then now keep before b g es o g' (x, rest, is, after) =
      subst (AreOwn before) (sym is) (now before b, keep x (before ++ exchange ask x ∷ []) (among_right before (exchange ask x ∷ []) (exchange ask x) (inl refl)) g rest o g' after)

  joined : (A : Meaning) (B : Outcome → Meaning) → Always A → ((o : Outcome) → Always (B o)) → Always (Joined A B)
  joined A B first then before b g es o g' (front, back, mid, between, is, a, c) =
      subst (AreOwn before) (sym is) (own_join before front back (first before tt g front mid between a) (then mid (before ++ front) tt between back o g' c))

  weaker : (B : List Exchange → Type 0) (A : Meaning) → Always A → Keeps B A
  weaker B A keep before b = keep before tt

  fetched : (gain : GainsData → GainsData) (x : AnswerData) → Always (AfterFetch gain x)
  fetched gain done = ends Succeeded gain
  fetched gain (pushed v) = ends Errored same
  fetched gain (configured k) = ends Errored same
  fetched gain failed = ends Failed same
  fetched gain errored = ends Errored same
  fetched gain aborted = ends Aborted same

  after_pushed : (b : Bool) (p : PutData) (v : TextMap) → Keeps (λ l. Among l (exchange (put_ask p) (pushed v))) (AfterPushed b p v)
  after_pushed true p v before there g es o g' (e, f, is) = subst (AreOwn before) (sym e) tt
  after_pushed false p v before there g es o g' after =
      asked (λ l. Among l (exchange (put_ask p) (pushed v))) (pushed_ask p v) (AfterFetch (register p.name)) (λ l a. inr (p.name, p.params, contains_from l (exchange (put_ask p) (pushed v)) a))
      (λ x. weaker (λ l. Among l (exchange (pushed_ask p v) x)) (AfterFetch (register p.name) x) (fetched (register p.name) x)) before there (move p.resource v g) es o g' after

  after_push : (p : PutData) (x : AnswerData) → Keeps (λ l. Among l (exchange (put_ask p) x)) (AfterPush p x)
  after_push p done = weaker _ (Ends Errored same) (ends Errored same)
  after_push p (pushed v) = after_pushed p.no_get p v
  after_push p (configured k) = weaker _ (Ends Errored same) (ends Errored same)
  after_push p failed = weaker _ (Ends Failed same) (ends Failed same)
  after_push p errored = weaker _ (Ends Errored same) (ends Errored same)
  after_push p aborted = weaker _ (Ends Aborted same) (ends Aborted same)

  after_run : (outputs : List Text) (x : AnswerData) → Always (AfterRun outputs x)
  after_run outputs done = ends Succeeded (register_all outputs)
  after_run outputs (pushed v) = ends Errored same
  after_run outputs (configured k) = ends Errored same
  after_run outputs failed = ends Failed (register_all outputs)
  after_run outputs errored = ends Errored same
  after_run outputs aborted = ends Aborted same

  runs_if : (b : Bool) (k : ConfigData) (env : List (Text × Text)) → Always (RunsIf b k env)
  runs_if true k env = asked (λ _. ⊤) (run_task k env) (AfterRun k.outputs) (λ l b. tt) (λ x. weaker (λ l. Among l (exchange (run_task k env) x)) (AfterRun k.outputs x) (after_run k.outputs x))
  runs_if false k env = ends Errored same

  runs : (k : ConfigData) (env : List (Text × Text)) → Always (Runs k env)
  runs k env before b g = runs_if (has_inputs k.inputs g) k env before b g

  after_read : (env : List (Text × Text)) (x : AnswerData) → Always (AfterRead env x)
  after_read env done = ends Errored same
  after_read env (pushed v) = ends Errored same
  after_read env (configured k) = runs k env
  after_read env failed = ends Errored same
  after_read env errored = ends Errored same
  after_read env aborted = ends Aborted same

  task_by : (source : SourceData) (env : List (Text × Text)) → Always (TaskBy source env)
  task_by (config k) env = runs k env
  task_by (file path) env = asked (λ _. ⊤) (read_config path) (AfterRead env) (λ l b. tt) (λ x. weaker (λ l. Among l (exchange (read_config path) x)) (AfterRead env x) (after_read env x))

  after_do : (A : Meaning) → Always A → (o : Outcome) → Always (AfterDo A o)
  after_do A keep Succeeded = keep
  after_do A keep Failed = ends Failed same
  after_do A keep Errored = ends Errored same
  after_do A keep Aborted = ends Aborted same

  and_worse : (A : Meaning) → Always A → (o : Outcome) → Always (AndWorse A o)
  and_worse A keep o = joined A (λ rest. Ends (worse o rest) same) keep (λ rest. ends (worse o rest) same)

  after_parallel : (A : Meaning) → Always A → (o : Outcome) → Always (AfterParallel A o)
  after_parallel A keep Succeeded = and_worse A keep Succeeded
  after_parallel A keep Failed = and_worse A keep Failed
  after_parallel A keep Errored = and_worse A keep Errored
  after_parallel A keep Aborted = ends Aborted same

  after_try : (o : Outcome) → Always (AfterTry o)
  after_try Succeeded = ends Succeeded same
  after_try Failed = ends Succeeded same
  after_try Errored = ends Succeeded same
  after_try Aborted = ends Aborted same

  after_attempt : (A : Meaning) → Always A → (o : Outcome) → Always (AfterAttempt A o)
  after_attempt A keep Succeeded = ends Succeeded same
  after_attempt A keep Failed = keep
  after_attempt A keep Errored = keep
  after_attempt A keep Aborted = ends Aborted same

  tries : (n : ℕ) (A : Meaning) → Always A → Always (Tries n A)
  tries zero A keep = keep
  tries (suc n) A keep = joined A (AfterAttempt (Tries n A)) keep (after_attempt (Tries n A) (tries n A keep))

  hook_if : (b : Bool) (A : Meaning) → Always A → (o : Outcome) → Always (HookIf b A o)
  hook_if true A keep o = and_worse A keep o
  hook_if false A keep o = ends o same

  either : (b : Bool) (A B : Meaning) → Always A → Always B → Always (Either b A B)
  either true A B first then = first
  either false A B first then = then

  -- each input of the step is one of which it is said
  abbrev pub Covers : List InputData → Type 0
  Covers is = (i : InputData) → Among is i → G i.name i.resource (version_of c i.name)

  pub hook_covers : (w : When) (t h : Tree) → Covers (inputs (hook w t h)) → Covers (inputs t) × Covers (inputs h)
  hook_covers OnError (hook OnAbort t aborts) h all = (
    λ i a. by i (among_of i a),
    λ i a. all i (among_right (inputs t) (inputs h ++ inputs aborts) i (among_left (inputs h) (inputs aborts) i a)),
  )
    where
      among_of : (i : InputData) → Among (inputs t ++ inputs aborts) i → Among (inputs t) i ⊎ Among (inputs aborts) i
      among_of i a = split (inputs t) a
        where
          split : (xs : List InputData) → Among (xs ++ inputs aborts) i → Among xs i ⊎ Among (inputs aborts) i
          split [] a = inr a
          split (x ∷ xs) (inl e) = inl (inl e)
          split (x ∷ xs) (inr a) = more (split xs a)
            where
              more : Among xs i ⊎ Among (inputs aborts) i → ((x ≡ i) ⊎ Among xs i) ⊎ Among (inputs aborts) i
              more (inl b) = inl (inr b)
              more (inr b) = inr b

      by : (i : InputData) → Among (inputs t) i ⊎ Among (inputs aborts) i → G i.name i.resource (version_of c i.name)
      by i (inl a) = all i (among_left (inputs t) (inputs h ++ inputs aborts) i a)
      by i (inr a) = all i (among_right (inputs t) (inputs h ++ inputs aborts) i (among_right (inputs h) (inputs aborts) i a))
  hook_covers w t h all = (λ i a. all i (among_left (inputs t) (inputs h) i a), λ i a. all i (among_right (inputs t) (inputs h) i a))

  mutual
    pub means_own : (t : Tree) → Covers (inputs t) → Always (Means c t)
    means_own (get d) all = asked (λ _. ⊤) (get_ask c d) (AfterFetch (got c d)) (λ l b. inl (all (input_from d) (inl refl))) (λ x. weaker (λ l. Among l (exchange (get_ask c d) x)) (AfterFetch (got c d) x) (fetched (got c d) x))
    means_own (put p) all = asked (λ _. ⊤) (put_ask p) (AfterPush p) (λ l b. tt) (after_push p)
    means_own (task t) all = task_by t.source t.params
    means_own (in_order ts) all = in_order_own ts all
    means_own (in_parallel ts fast) all = either fast (InOrder c ts) (AllOf c ts) (in_order_own ts all) (all_of_own ts all)
    means_own (tried t) all = joined (Means c t) AfterTry (means_own t all) after_try
    means_own (attempts n t) all = tries (n - 1) (Means c t) (means_own t all)
    means_own (hook w t h) all =
        let (p, q) = hook_covers w t h all in
        joined (Means c t) (AfterHooked w (Means c h)) (means_own t p) (λ o. hook_if (runs_after w o) (Means c h) (means_own h q) o)

    in_order_own : (ts : Trees) → Covers (inputs_in ts) → Always (InOrder c ts)
    in_order_own no_trees all = ends Succeeded same
    in_order_own (tree t ts) all =
        joined (Means c t) (AfterDo (InOrder c ts)) (means_own t (λ i a. all i (among_left (inputs t) (inputs_in ts) i a))) (after_do (InOrder c ts) (in_order_own ts (λ i a. all i (among_right (inputs t) (inputs_in ts) i a))))

    all_of_own : (ts : Trees) → Covers (inputs_in ts) → Always (AllOf c ts)
    all_of_own no_trees all = ends Succeeded same
    all_of_own (tree t ts) all =
        joined (Means c t) (AfterParallel (AllOf c ts)) (means_own t (λ i a. all i (among_left (inputs t) (inputs_in ts) i a))) (after_parallel (AllOf c ts) (all_of_own ts (λ i a. all i (among_right (inputs t) (inputs_in ts) i a))))

pub fetches_its_own : FetchesItsOwn
fetches_its_own c t es artifact resource v params next =
    let (rest, (o, g, means)) = next.0 done in
    let all = means_own c (IsOfInput c t) t (λ i a. (i, contains_from (inputs t) i a, refl, refl, refl)) [] tt no_gains ((es ++ exchange (fetch artifact resource v params) done ∷ []) ++ rest) o g means in
    own_last c (IsOfInput c t) [] es (exchange (fetch artifact resource v params) done) rest all
