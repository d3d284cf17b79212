-- Each version that a build moved was fetched for an input of its plan, or pushed.
use Rattle.std.proofs.Common.{◌≡◌, ℕ, zero, suc, ◌-◌, ◌⊎◌, inl, inr, Bool, true, false, cond, List, [], ◌∷◌, ◌++◌, Option, refl, sym, subst, append_assoc}
use Rattle.std.specs.Prelude.{⊤}
use Rattle.std.proofs.lemmas.List.{append-nil}
use Rattle.serde_json.specs.Data.{Data}
use Rattle.ccr_history.specs.TextMap.{TextMap, key_text}
use Rattle.ccr_pipeline.specs.Inputs.{InputData, input_from, inputs, inputs_in}
use Rattle.ccr_pipeline.specs.Tree.{Text, ConfigData, GetData, PutData, SourceData, config, file, Tree, Trees, get, put, task, in_order, in_parallel, tried, attempts, hook, no_trees, tree}
use Rattle.ccr_steps.specs.declared.outcome.Outcome.{Outcome}
use Rattle.ccr_steps.specs.declared.outcome.Outcome.TheVariants.{Succeeded, Failed, Errored, Aborted}
use Rattle.ccr_steps.specs.Asks.{AskData, fetch, push, read_config, run_task, AnswerData, done, pushed, configured, failed, errored, aborted, Exchange, exchange, Chosen, version_of, get_ask, put_ask, pushed_ask}
use Rattle.ccr_steps.specs.Gains.{MovedData, has_moved, with_moved, GainsData, no_gains, register, register_all, same, move, has_inputs}
use Rattle.ccr_steps.specs.Means.{worse, runs_after, Meaning, Ends, Asks, Joined, AfterFetch, got, AfterPushed, AfterPush, AfterRun, RunsIf, Runs, AfterRead, TaskBy, AfterDo, AndWorse, AfterParallel, AfterTry, AfterAttempt, Tries, HookIf, AfterHooked, Either, Means, InOrder, AllOf}
use Rattle.ccr_steps.specs.Fetches.{IsOfInput, WasPushed}
use Rattle.ccr_steps.specs.Moves.{WasFetched, MovesItsOwn}
use Rattle.ccr_steps.proofs.Among.{Among, among_from, contains_from, among_left, among_right}
use Rattle.ccr_steps.proofs.Fetching.{hook_covers}

module _ (c : Chosen) (G : Text → Text → TextMap → Type 0) where
  -- in these exchanges the version was fetched for an input, or pushed
  abbrev Came : List Exchange → MovedData → Type 0
  Came l m =
      ((name : Text) × (params : Option Data) × G name m.resource m.version × Among l (exchange (fetch name m.resource m.version params) done))
      ⊎ ((name : Text) × (params : Option Data) × Among l (exchange (push name m.resource params) (pushed m.version)))

  -- each of these versions was
  abbrev pub AllCame : List Exchange → List MovedData → Type 0
  AllCame l ms = (m : MovedData) → Among ms m → Came l m

  came_more : (l more : List Exchange) (m : MovedData) → Came l m → Came (l ++ more) m
  came_more l more m (inl (name, params, of, there)) = inl (name, params, of, among_left l more (exchange (fetch name m.resource m.version params) done) there)
  came_more l more m (inr (name, params, there)) = inr (name, params, among_left l more (exchange (push name m.resource params) (pushed m.version)) there)

  moved_came : (l : List Exchange) (ms : List MovedData) (m : MovedData) → Came l m → AllCame l ms → AllCame l (with_moved ms m)
  moved_came l ms m new all = by (has_moved ms m.resource (key_text m.version))
    where
      last : (xs : List MovedData) (x : MovedData) → Among (xs ++ m ∷ []) x → Among xs x ⊎ (m ≡ x)
      last [] x (inl e) = inr e
      last [] x (inr h) = absurd h
      last (y ∷ xs) x (inl e) = inl (inl e)
      last (y ∷ xs) x (inr h) = more (last xs x h)
        where
          more : Among xs x ⊎ (m ≡ x) → ((y ≡ x) ⊎ Among xs x) ⊎ (m ≡ x)
          more (inl a) = inl (inr a)
          more (inr e) = inr e

      of : (x : MovedData) → Among ms x ⊎ (m ≡ x) → Came l x
      of x (inl there) = all x there
      of x (inr e) = subst (Came l) e new

      by : (t : Bool) → AllCame l (cond t ms (ms ++ m ∷ []))
      by true = all
      by false = λ x there. of x (last ms x there)

  -- what was moved came of the exchanges so far, where this holds of those before
  abbrev Keeps : (List Exchange → Type 0) → Meaning → Type 0
  Keeps B A = (before : List Exchange) → B before → (g : GainsData) → AllCame before g.moved → (es : List Exchange) (o : Outcome) (g' : GainsData) → A g es o g' → AllCame (before ++ es) g'.moved

  abbrev Always : Meaning → Type 0
  Always A = Keeps (λ _. ⊤) A

  -- a gain that adds only what came
  abbrev Adds : (List Exchange → Type 0) → (GainsData → GainsData) → Type 0
  Adds B gain = (l : List Exchange) → B l → (g : GainsData) → AllCame l g.moved → AllCame l (gain g).moved

  ending : (B : List Exchange → Type 0) (end : Outcome) (gain : GainsData → GainsData) → Adds B gain → Keeps B (Ends end gain)
  ending B end gain adds before b g all es o g' (e, f, is) =
      subst (λ y. AllCame (before ++ es) y.moved) (sym is) (subst (λ l. AllCame (before ++ l) (gain g).moved) (sym e) (subst (λ l. AllCame l (gain g).moved) (sym (append-nil before)) (adds before b g all)))

  ends : (end : Outcome) (gain : GainsData → GainsData) → Adds (λ _. ⊤) gain → Always (Ends end gain)
  ends end gain adds = ending (λ _. ⊤) end gain adds

  stays : (end : Outcome) → Always (Ends end same)
  stays end = ends end same (λ l b g all. all)

  asked : (B : List Exchange → Type 0) (ask : AskData) (then : AnswerData → Meaning) → ((x : AnswerData) → Keeps (λ l. Among l (exchange ask x)) (then x)) → Keeps B (Asks ask then)
  asked B ask then keep before b g all es o g' (x, rest, is, after) =
      subst (λ l. AllCame (before ++ l) g'.moved) (sym is)
      (subst (λ l. AllCame l g'.moved) (append_assoc before (exchange ask x ∷ []) rest)
      (keep x (before ++ exchange ask x ∷ []) (among_right before (exchange ask x ∷ []) (exchange ask x) (inl refl)) g (λ m there. came_more before (exchange ask x ∷ []) m (all m there)) rest o g' after))

  joined : (A : Meaning) (B : Outcome → Meaning) → Always A → ((o : Outcome) → Always (B o)) → Always (Joined A B)
  joined A B first then before b g all es o g' (front, back, mid, between, is, a, c) =
      subst (λ l. AllCame (before ++ l) g'.moved) (sym is)
      (subst (λ l. AllCame l g'.moved) (append_assoc before front back)
      (then mid (before ++ front) tt between (first before tt g all front mid between a) back o g' c))

  weaker : (B : List Exchange → Type 0) (A : Meaning) → Always A → Keeps B A
  weaker B A keep before b = keep before tt

  -- a get whose fetch is done moves its input's version
  fetched : (d : GetData) (of : G d.name d.resource (version_of c d.name)) (x : AnswerData) → Keeps (λ l. Among l (exchange (get_ask c d) x)) (AfterFetch (got c d) x)
  fetched d of done = ending (λ l. Among l (exchange (get_ask c d) done)) Succeeded (got c d) (λ l there g all. moved_came l g.moved (record { resource = d.resource; version = version_of c d.name }) (inl (d.name, d.params, of, there)) all)
  fetched d of (pushed v) = weaker _ (Ends Errored same) (stays Errored)
  fetched d of (configured k) = weaker _ (Ends Errored same) (stays Errored)
  fetched d of failed = weaker _ (Ends Failed same) (stays Failed)
  fetched d of errored = weaker _ (Ends Errored same) (stays Errored)
  fetched d of aborted = weaker _ (Ends Aborted same) (stays Aborted)

  -- the fetch of what was pushed moves nothing more
  refetched : (name : Text) (x : AnswerData) → Always (AfterFetch (register name) x)
  refetched name done = ends Succeeded (register name) (λ l b g all. all)
  refetched name (pushed v) = stays Errored
  refetched name (configured k) = stays Errored
  refetched name failed = stays Failed
  refetched name errored = stays Errored
  refetched name aborted = stays Aborted

  pushed_came : (p : PutData) (v : TextMap) (l : List Exchange) → Among l (exchange (put_ask p) (pushed v)) → (g : GainsData) → AllCame l g.moved → AllCame l (move p.resource v g).moved
  pushed_came p v l there g all = moved_came l g.moved (record { resource = p.resource; version = v }) (inr (p.name, p.params, there)) all

  after_pushed : (b : Bool) (p : PutData) (v : TextMap) → Keeps (λ l. Among l (exchange (put_ask p) (pushed v))) (AfterPushed b p v)
  after_pushed true p v before there g all es o g' after = ending (λ l. Among l (exchange (put_ask p) (pushed v))) Succeeded (move p.resource v) (pushed_came p v) before there g all es o g' after
  after_pushed false p v before there g all es o g' after =
      asked (λ l. Among l (exchange (put_ask p) (pushed v))) (pushed_ask p v) (AfterFetch (register p.name)) (λ x. weaker (λ l. Among l (exchange (pushed_ask p v) x)) (AfterFetch (register p.name) x) (refetched p.name x))
      before there (move p.resource v g) (pushed_came p v before there g all) es o g' after

  after_push : (p : PutData) (x : AnswerData) → Keeps (λ l. Among l (exchange (put_ask p) x)) (AfterPush p x)
  after_push p done = weaker _ (Ends Errored same) (stays Errored)
  after_push p (pushed v) = after_pushed p.no_get p v
  after_push p (configured k) = weaker _ (Ends Errored same) (stays Errored)
  after_push p failed = weaker _ (Ends Failed same) (stays Failed)
  after_push p errored = weaker _ (Ends Errored same) (stays Errored)
  after_push p aborted = weaker _ (Ends Aborted same) (stays Aborted)

  after_run : (outputs : List Text) (x : AnswerData) → Always (AfterRun outputs x)
  after_run outputs done = ends Succeeded (register_all outputs) (λ l b g all. all)
  after_run outputs (pushed v) = stays Errored
  after_run outputs (configured k) = stays Errored
  after_run outputs failed = ends Failed (register_all outputs) (λ l b g all. all)
  after_run outputs errored = stays Errored
  after_run outputs aborted = stays Aborted

  runs_if : (b : Bool) (k : ConfigData) (env : List (Text × Text)) → Always (RunsIf b k env)
  runs_if true k env = asked (λ _. ⊤) (run_task k env) (AfterRun k.outputs) (λ x. weaker (λ l. Among l (exchange (run_task k env) x)) (AfterRun k.outputs x) (after_run k.outputs x))
  runs_if false k env = stays Errored

  runs : (k : ConfigData) (env : List (Text × Text)) → Always (Runs k env)
  runs k env before b g all = runs_if (has_inputs k.inputs g) k env before b g all

  after_read : (env : List (Text × Text)) (x : AnswerData) → Always (AfterRead env x)
  after_read env done = stays Errored
  after_read env (pushed v) = stays Errored
  after_read env (configured k) = runs k env
  after_read env failed = stays Errored
  after_read env errored = stays Errored
  after_read env aborted = stays Aborted

  task_by : (source : SourceData) (env : List (Text × Text)) → Always (TaskBy source env)
  task_by (config k) env = runs k env
  task_by (file path) env = asked (λ _. ⊤) (read_config path) (AfterRead env) (λ x. weaker (λ l. Among l (exchange (read_config path) x)) (AfterRead env x) (after_read env x))

  after_do : (A : Meaning) → Always A → (o : Outcome) → Always (AfterDo A o)
  after_do A keep Succeeded = keep
  after_do A keep Failed = stays Failed
  after_do A keep Errored = stays Errored
  after_do A keep Aborted = stays Aborted

  and_worse : (A : Meaning) → Always A → (o : Outcome) → Always (AndWorse A o)
  and_worse A keep o = joined A (λ rest. Ends (worse o rest) same) keep (λ rest. stays (worse o rest))

  after_parallel : (A : Meaning) → Always A → (o : Outcome) → Always (AfterParallel A o)
  after_parallel A keep Succeeded = and_worse A keep Succeeded
  after_parallel A keep Failed = and_worse A keep Failed
  after_parallel A keep Errored = and_worse A keep Errored
  after_parallel A keep Aborted = stays Aborted

  after_try : (o : Outcome) → Always (AfterTry o)
  after_try Succeeded = stays Succeeded
  after_try Failed = stays Succeeded
  after_try Errored = stays Succeeded
  after_try Aborted = stays Aborted

  after_attempt : (A : Meaning) → Always A → (o : Outcome) → Always (AfterAttempt A o)
  after_attempt A keep Succeeded = stays Succeeded
  after_attempt A keep Failed = keep
  after_attempt A keep Errored = keep
  after_attempt A keep Aborted = stays Aborted

  tries : (n : ℕ) (A : Meaning) → Always A → Always (Tries n A)
  tries zero A keep = keep
  tries (suc n) A keep = joined A (AfterAttempt (Tries n A)) keep (after_attempt (Tries n A) (tries n A keep))

  hook_if : (b : Bool) (A : Meaning) → Always A → (o : Outcome) → Always (HookIf b A o)
  hook_if true A keep o = and_worse A keep o
  hook_if false A keep o = stays o

  either : (b : Bool) (A B : Meaning) → Always A → Always B → Always (Either b A B)
  either true A B first then = first
  either false A B first then = then

  -- each input of the step is one of which it is said
  abbrev Covers : List InputData → Type 0
  Covers is = (i : InputData) → Among is i → G i.name i.resource (version_of c i.name)

  mutual
    pub means_came : (t : Tree) → Covers (inputs t) → Always (Means c t)
    means_came (get d) all = asked (λ _. ⊤) (get_ask c d) (AfterFetch (got c d)) (λ x. fetched d (all (input_from d) (inl refl)) x)
    means_came (put p) all = asked (λ _. ⊤) (put_ask p) (AfterPush p) (after_push p)
    means_came (task t) all = task_by t.source t.params
    means_came (in_order ts) all = in_order_came ts all
    means_came (in_parallel ts fast) all = either fast (InOrder c ts) (AllOf c ts) (in_order_came ts all) (all_of_came ts all)
    means_came (tried t) all = joined (Means c t) AfterTry (means_came t all) after_try
    means_came (attempts n t) all = tries (n - 1) (Means c t) (means_came t all)
    means_came (hook w t h) all =
        let (p, q) = hook_covers c G w t h all in
        joined (Means c t) (AfterHooked w (Means c h)) (means_came t p) (λ o. hook_if (runs_after w o) (Means c h) (means_came h q) o)

    in_order_came : (ts : Trees) → Covers (inputs_in ts) → Always (InOrder c ts)
    in_order_came no_trees all = stays Succeeded
    in_order_came (tree t ts) all =
        joined (Means c t) (AfterDo (InOrder c ts)) (means_came t (λ i a. all i (among_left (inputs t) (inputs_in ts) i a))) (after_do (InOrder c ts) (in_order_came ts (λ i a. all i (among_right (inputs t) (inputs_in ts) i a))))

    all_of_came : (ts : Trees) → Covers (inputs_in ts) → Always (AllOf c ts)
    all_of_came no_trees all = stays Succeeded
    all_of_came (tree t ts) all =
        joined (Means c t) (AfterParallel (AllOf c ts)) (means_came t (λ i a. all i (among_left (inputs t) (inputs_in ts) i a))) (after_parallel (AllOf c ts) (all_of_came ts (λ i a. all i (among_right (inputs t) (inputs_in ts) i a))))

pub moves_its_own : MovesItsOwn
moves_its_own c t es o g means m there =
    by (means_came c (IsOfInput c t) t (λ i a. (i, contains_from (inputs t) i a, refl, refl, refl)) [] tt no_gains (λ x none. absurd none) es o g means m (among_from g.moved m there))
  where
    by : Came c (IsOfInput c t) es m → WasFetched c t es m.resource m.version ⊎ WasPushed es m.resource m.version
    by (inl (name, params, of, fetched)) = inl (name, params, of, contains_from es (exchange (fetch name m.resource m.version params) done) fetched)
    by (inr (name, params, pushes)) = inr (name, params, contains_from es (exchange (push name m.resource params) (pushed m.version)) pushes)
